-- An answer's number, and what its being done says of the tests that led to it.
use Prim.Native.Nat.{ℕ, ◌<◌, ◌≤◌}
use mathlib.Core.Path.{◌≡◌, refl, sym, ap, ◌∙◌}
use mathlib.Core.Bool.{Bool, true, false, cond}
use mathlib.Core.List.{List}
use native.Mathlib.Omega.{arith}
use native.Mathlib.Decide.{dec_lt}
use borrow.Author.Tests.{lt-ltb, le-ltb, le-leb, lt-leb}
use lib.Dec.{eqb, ltb, leb}
use Rattle.lists.specs.Tests.{clash}
use Rattle.names.specs.declared.Letter.{Letter}
use Rattle.names.specs.Results.{is_taken, result_from}
use Rattle.names.proofs.RefusalsMeaning.{refused}
use Rattle.names.proofs.Results.{taken_small, taken_is}
use Rattle.std.specs.Prelude.{Result, Ok, Err}
use Rattle.names.specs.declared.refusals.Refusal.{Refusal}
use Rattle.names.specs.declared.refusals.Refusal.TheVariants.{IllSized}
use Rattle.names.specs.declared.refusals.Taken.{Taken}
use Rattle.names.specs.declared.refusals.Taken.TheVariants.{Done, Held}
use Rattle.names.specs.Refusals.{result_number}
use Rattle.channel.specs.Answers.{is_done}
use Rattle.automaton.specs.Refusals.{otherwise}
use Rattle.automaton.specs.State.{ChannelState}
use Rattle.channel.specs.Shows.{Shows}

-- done exactly if its number says taken
pub done_number : (a : Result Taken Refusal) → is_done a ≡ is_taken (result_number a)
unfolding is_done is_taken
done_number (Ok Done) = refl
done_number (Ok Held) = refl
done_number (Err r) = sym (refused r)

-- and so exactly if nothing refuses it; `held`: it holds a message
pub done_is : (a : Result Taken Refusal) (r : ℕ) (held : Bool) → r < 100 → result_number a ≡ result_from r held → is_done a ≡ eqb r 0
done_is a r held h e = done_number a ∙ ap is_taken e ∙ taken_is r held h

pub done_plain : (a : Result Taken Refusal) (r : ℕ) → r < 100 → result_number a ≡ r → is_done a ≡ eqb r 0
done_plain a r h e = done_number a ∙ ap is_taken e ∙ taken_small r h

-- a length above its limit
pub above : (x most : ℕ) → result_number (cond (ltb most x) (Err IllSized) (Ok Done)) ≡ otherwise 6 (leb x most)
above x most = go (dec_lt most x)
  where
    go : Dec (most < x) → result_number (cond (ltb most x) (Err IllSized) (Ok Done)) ≡ otherwise 6 (leb x most)
    go (yes h) = rw (lt-ltb most x h, lt-leb x most h)
    go (no h) = let k : x ≤ most = omega arith in rw (le-ltb most x k, le-leb x most k)

-- an answer picked by a test is done only by the test
pub picked : (t : Bool) (a b : Result Taken Refusal) → is_done b ≡ false → is_done (cond t a b) ≡ true → (t ≡ true) × (is_done a ≡ true)
picked true a b n e = (refl, e)
picked false a b n e = absurd (clash e n)

pub passed : (t : Bool) (a b : Result Taken Refusal) → is_done a ≡ false → is_done (cond t a b) ≡ true → (t ≡ false) × (is_done b ≡ true)
passed true a b n e = absurd (clash e n)
passed false a b n e = (refl, e)

-- the words that a call leaves show the idealised step, where they do so if it is done
pub settle : (ws us : List ℕ) (w x : ChannelState Letter) (a : Result Taken Refusal) (r : ℕ) → is_done a ≡ eqb r 0 → Shows ws w → (is_done a ≡ true → Shows us x)
    → Shows (cond (is_done a) us ws) (cond (eqb r 0) x w)
settle ws us w x a r e v f = rw (← e) (go (is_done a) f)
  where
    go : (t : Bool) → (t ≡ true → Shows us x) → Shows (cond t us ws) (cond t x w)
    go true g = g refl
    go false g = v
