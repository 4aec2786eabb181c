-- A step that decodes to a command is refused with none of 10 to 15.
use Prim.Native.Nat.{ℕ, suc, ◌≤◌}
use mathlib.Core.Path.{◌≡◌, refl, sym, ap, ◌∙◌, subst}
use mathlib.Core.Logic.{◌⊎◌, inl, inr}
use mathlib.Core.List.{List, [], ◌∷◌, map}
use native.Mathlib.Omega.{arith}
use lib.ListN.{length}
use Rattle.lists.specs.Histories.{In, here, there}
use Rattle.names.specs.Placement.{Placement}
use Rattle.names.specs.declared.Answer.{Answer}
use Rattle.names.proofs.Results.{not_zero_refused}
use Rattle.claims.specs.Command.{Command}
use Rattle.claims.specs.Steps.{RawStep, Decoded, bad, good, decode}
use Rattle.claims.specs.Published.{Published}
use Rattle.claims.specs.Found.{Found}
use Rattle.claims.specs.FoundRun.{answer_decoded, after_decoded, answers_from}
use Rattle.claims.specs.ForgetFound.{forget}
use Rattle.claims.specs.Numbers.{Comes, Misformed, alone_here, busy_read, busy_update, copy_here, crowded, far_behind, held_full, inbox_full_single, inbox_full_take, last_broadcast, last_read, last_update, no_broadcast, no_copy, no_holder, no_letter, no_message, nobody, none_in_flight, not_alone, not_asking, not_done, not_read, not_update, outbox_full_read, outbox_full_reply, outbox_full_update, second_in_flight}
use Rattle.claims.proofs.ForgetFound.{result_same}
use Rattle.claims.proofs.RefusalExact.{misformed_exact, refusal_exact}
use Rattle.claims.proofs.Results.{refused_number}

-- a result from 10 to 15
abbrev pub Ill : ℕ → Type 0
Ill n = (10 ≤ n) × (n ≤ 15)

abbrev told : Decoded → Type 0
told (bad n) = Unit {0}
told (good c) = ⊥

bad_or_good : (n : ℕ) (c : Command) → bad n ≡ good c → ⊥
bad_or_good n c e = subst told e tt

module _ (P : Placement) where
  comes_high : {s : Published} {n : ℕ} {c : Command} → Comes P s n c → ¬ Ill n
  comes_high (busy_read h) i = omega (arith, i.0, i.1)
  comes_high (busy_update h) i = omega (arith, i.0, i.1)
  comes_high (not_asking h g) i = omega (arith, i.0, i.1)
  comes_high (not_read h) i = omega (arith, i.0, i.1)
  comes_high (not_update h) i = omega (arith, i.0, i.1)
  comes_high (not_done h) i = omega (arith, i.0, i.1)
  comes_high (no_copy x q p) i = omega (arith, i.0, i.1)
  comes_high (not_alone x f w q p) i = omega (arith, i.0, i.1)
  comes_high (copy_here x q p) i = omega (arith, i.0, i.1)
  comes_high (no_holder x q p) i = omega (arith, i.0, i.1)
  comes_high (alone_here x f w q p) i = omega (arith, i.0, i.1)
  comes_high (last_read q l) i = omega (arith, i.0, i.1)
  comes_high (last_update q l) i = omega (arith, i.0, i.1)
  comes_high (no_letter q) i = omega (arith, i.0, i.1)
  comes_high (no_broadcast l) i = omega (arith, i.0, i.1)
  comes_high (none_in_flight q) i = omega (arith, i.0, i.1)
  comes_high (no_message q) i = omega (arith, i.0, i.1)
  comes_high (far_behind m r j q u l g) i = omega (arith, i.0, i.1)
  comes_high (crowded m q u l) i = omega (arith, i.0, i.1)
  comes_high (outbox_full_read x q p g l) i = omega (arith, i.0, i.1)
  comes_high (nobody x f w q p z) i = omega (arith, i.0, i.1)
  comes_high (outbox_full_update x f w q p l) i = omega (arith, i.0, i.1)
  comes_high (last_broadcast m r q u g l) i = omega (arith, i.0, i.1)
  comes_high (second_in_flight m r x q u p) i = omega (arith, i.0, i.1)
  comes_high (inbox_full_take m q u l) i = omega (arith, i.0, i.1)
  comes_high (inbox_full_single x q p l) i = omega (arith, i.0, i.1)
  comes_high (held_full x q p l) i = omega (arith, i.0, i.1)
  comes_high (outbox_full_reply m r q p l) i = omega (arith, i.0, i.1)

  -- from every state
  pub not_ill : (s : Found) (a : RawStep) (c : Command) → decode P a ≡ good c → ¬ Ill (answer_decoded P s (decode P a)).result
  not_ill s a c e i = go (answer_decoded P s (decode P a)).result refl i
    where
      go : (n : ℕ) → (answer_decoded P s (decode P a)).result ≡ n → Ill n → ⊥
      go n q i =
          by n i
          ((refusal_exact P a (forget s) n (λ z. omega (arith, i.0, z))).0
          ((refused_number P (forget s) (decode P a) n (not_zero_refused n (omega (arith, i.0)) (λ z. omega (arith, i.1, z)))).0 (sym (result_same P s (decode P a)) ∙ q)))
        where
          by : (n : ℕ) → Ill n → Misformed P a n ⊎ ((c : Command) × (decode P a ≡ good c) × Comes P (forget s) n c) → ⊥
          by n i (inl m) = bad_or_good n c (sym ((misformed_exact P a n).1 m) ∙ e)
          by n i (inr (d, f, x)) = comes_high x i

  -- steps that are commands
  abbrev pub Commands : List RawStep → Type 0
  Commands l = (a : RawStep) → In a l → (c : Command) × (decode P a ≡ good c)

  pub run_not_ill : (s : Found) (l : List RawStep) → Commands l → (r : Answer) → In r (answers_from P s l) → ¬ Ill r.result
  run_not_ill s [] h r x3 i = elim x3 [ ]
  run_not_ill s (a ∷ l) h r (here p) i =
      let c = h a (here refl) in
      not_ill s a c.0 c.1 (subst Ill (sym (ap (λ x. x.result) p)) i)
  run_not_ill s (a ∷ l) h r (there q) i = run_not_ill (after_decoded P s (decode P a)) l (λ b z. h b (there z)) r q i

-- whose steps decode one by one to commands
pub commands_in : (P : Placement) (l : List RawStep) (cs : List Command) → map (decode P) l ≡ map good cs → Commands P l
commands_in P [] cs e a i = elim i [ ]
commands_in P (b ∷ l) [] e a i = let z : suc (length (map (decode P) l)) ≡ 0 = ap length e in absurd (omega arith)
commands_in P (b ∷ l) (c ∷ cs) e a (here p) = (c, ap (decode P) (sym p) ∙ first e)
  where
    first : decode P b ∷ map (decode P) l ≡ good c ∷ map good cs → decode P b ≡ good c
    first e = ap (λ m. head_or m) e
      where
        head_or : List Decoded → Decoded
        head_or [] = bad 0
        head_or (x ∷ xs) = x
commands_in P (b ∷ l) (c ∷ cs) e a (there q) = commands_in P l cs (ap tail_or e) a q
  where
    tail_or : List Decoded → List Decoded
    tail_or [] = []
    tail_or (x ∷ xs) = xs
