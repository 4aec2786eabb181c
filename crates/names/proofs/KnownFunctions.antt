-- Which functions there are not: 0, and above 5 (RULES 2.6). The layers above judge steps, tasks and messages by it.
use Rattle.std.proofs.Common.{◌≡◌, ◌<◌, false, ◌&&◌, leb, ◌⊎◌, sym, ap, ◌∙◌, inl, inr, arith, le-leb, leb-false}
use native.Mathlib.Decide.{dec_lt}
use borrow.Author.Tests.{lt-leb}
use Rattle.lists.specs.Tests.{and_false}
use Rattle.names.specs.Update.{known_function}
use Rattle.names.specs.UpdateMeaning.{FunctionsUnknown}

pub functions_unknown : FunctionsUnknown
unfolding known_function
functions_unknown f = (go (dec_lt f 1), back)
  where
    go : Dec (f < 1) → (leb 1 f && leb f 5) ≡ false → (f ≡ 0) ⊎ (5 < f)
    go (yes l) e = inl (omega arith)
    go (no l) e = inr (leb-false f 5 (sym (ap (λ t. t && leb f 5) (le-leb 1 f (omega arith))) ∙ e))

    back : (f ≡ 0) ⊎ (5 < f) → (leb 1 f && leb f 5) ≡ false
    back (inl e) = rw (lt-leb 1 f (omega arith))
    back (inr h) = rw (lt-leb f 5 h) (and_false (leb 1 f))
