-- Steps 1, 2 and 10.
use Prim.Native.Nat.{ℕ, suc, ◌+◌, ◌<◌}
use mathlib.Core.Path.{◌≡◌, refl, sym, ap, ◌∙◌, subst}
use mathlib.Core.Logic.{◌≢◌}
use mathlib.Core.Bool.{Bool, true, false, cond}
use mathlib.Core.List.{List}
use native.Mathlib.Numerals.{add-one}
use native.Mathlib.Omega.{arith}
use borrow.Author.Tests.{ltb-true, lt-ltb, ne_eqb}
use lib.Dec.{eqb, ltb}
use lib.ListN.{set, length-set}
use Rattle.lists.specs.Tests.{clash}
use Rattle.names.specs.declared.Register.{Register}
use Rattle.names.specs.Placement.{Placement}
use Rattle.names.specs.Results.{is_taken}
use Rattle.names.proofs.Results.{taken_small, result_plain}
use Rattle.automaton.specs.Refusals.{otherwise}
use Rattle.channel.specs.Layout.{cards_of, tasks_of, registers_of}
use Rattle.channel.proofs.Offered.{cards_most, tasks_most, registers_most}
use Rattle.claims.specs.Command.{request_read, request_update, report}
use Rattle.claims.specs.Steps.{good}
use Rattle.claims.specs.Refusals.{request_refusal, report_refusal}
use Rattle.claims.specs.Found.{Found, mail, set_status, requesting, answered, effect, stage, sight}
use Rattle.claims.specs.FoundRun.{value_of, answer_decoded}
use Rattle.claims.proofs.Results.{refusal_small}
use Rattle.tables.specs.declared.Doing.{Doing}
use Rattle.tables.specs.declared.Doing.TheVariants.{Quiet, AskingRead, AskingUpdate, Waiting, DoneRead, DoneUpdate}
use Rattle.tables.specs.Layout.{requests_word, requests_of}
use Rattle.tables.specs.Doings.{doing_at, doing_stored}
use Rattle.store.specs.Requests.{is_quiet, request_number, request_words, report_of, report_answer, report_words}
use Rattle.tables.specs.Sized.{doing_fits}
use Rattle.store.specs.Step.{outcome}
use Rattle.tables.specs.Shows.{status_of, RegistersShow}
use Rattle.store.specs.Demand2.{StepFollows}
use Rattle.tables.proofs.AskedFits.{doing_packs}
use Rattle.tables.proofs.Words.{doing_long}
use Rattle.tables.proofs.Showing.{requests_show, doing_show}
use Rattle.tables.proofs.Sizing.{requests_fit, doing_fit}
use Rattle.store.proofs.Standing.{Ready, stands, registers_ready, follows}

module _ (rs cs : List ℕ) (P : Placement) (s : Found) (z : Ready rs cs P s) (t : ℕ) (there : t < tasks_of cs) where
  -- what task t is doing is d now
  pub doing_ready : (d : Doing) → doing_fits cs d ≡ true
      → Ready (doing_stored rs t d) cs P (record { requests = s.requests; status = set_status t (status_of d) s.status; table = s.table; out = s.out; channel = s.channel })
  doing_ready d e =
      registers_ready rs cs P s z (doing_stored rs t d) _ (doing_long rs t d ∙ z.long)
      (doing_fit rs cs (cards_most cs) (tasks_most cs) (registers_most cs) z.long z.fit t there d e)
      (doing_show rs (cards_of cs) (tasks_of cs) (registers_of cs) (cards_most cs) (tasks_most cs) (registers_most cs) P s z.long z.show s.channel t there d (doing_packs cs d e))
      refl

  -- ---- steps 1 and 2

  request_number_lem : request_number rs t ≡ request_refusal s.requests (stage P (s.status t))
  unfolding request_number is_quiet status_of
  request_number_lem = rw (z.show.status= t there, z.show.requests=) (go (doing_at rs t))
    where
      quiets : (b : Bool) → cond b 0 23 ≡ otherwise 23 b
      quiets true = refl
      quiets false = refl

      go : (d : Doing) → cond (is_quiet d) (cond (ltb (requests_of rs) 65535) 0 23) 20 ≡ request_refusal (requests_of rs) (stage P (status_of d))
      go Quiet = quiets (ltb (requests_of rs) 65535)
      go (AskingRead x) = refl
      go (AskingUpdate x f w) = refl
      go Waiting = refl
      go (DoneRead v) = refl
      go (DoneUpdate v) = refl

  fewer : request_number rs t ≡ 0 → requests_of rs < 65535
  unfolding request_number
  fewer e = ltb-true _ _ (go (is_quiet (doing_at rs t)) (ltb (requests_of rs) 65535) e)
    where
      go : (a b : Bool) → ◌≡◌ {A = ℕ} (cond a (cond b 0 23) 20) 0 → b ≡ true
      go true true q = refl
      go true false q = absurd (omega arith)
      go false b q = absurd (omega arith)

  asked : (d : Doing) → doing_fits cs d ≡ true → request_number rs t ≡ 0 → Ready (request_words rs t d) cs P (requesting s t (status_of d))
  unfolding request_words
  asked d e n =
      let y = doing_ready d e in
      let us = doing_stored rs t d in
      let more : requests_of rs + 1 ≡ suc s.requests = add-one (requests_of rs) ∙ ap suc (sym z.show.requests=) in
      rw n
      (registers_ready rs cs P s z (set us requests_word (requests_of rs + 1)) (requesting s t (status_of d)) (length-set us 0 (requests_of rs + 1) ∙ y.long)
      (requests_fit us cs (cards_most cs) (tasks_most cs) (registers_most cs) y.long y.fit (requests_of rs + 1) (omega (arith, fewer n)))
      (subst (λ k. RegistersShow (set us requests_word (requests_of rs + 1)) (cards_of cs) (tasks_of cs) (registers_of cs) P
      (record { requests = k; status = set_status t (status_of d) s.status; table = s.table; out = s.out; channel = s.channel })) more
      (requests_show us (cards_of cs) (tasks_of cs) (registers_of cs) (cards_most cs) (tasks_most cs) (registers_most cs) P _ y.long y.show s.channel (requests_of rs + 1)))
      refl)

  refused_words : (d : Doing) → request_number rs t ≢ 0 → request_words rs t d ≡ rs
  unfolding request_words
  refused_words d n = rw (ne_eqb (request_number rs t) 0 n)

  pub request_read_follows : (x : Register) → x.0 < registers_of cs
      → StepFollows rs cs P s (outcome (request_number rs t) (request_words rs t (AskingRead x)) cs) (good (request_read t x.0))
  unfolding doing_fits status_of
  request_read_follows x h =
      follows rs cs P s z (request_number rs t) (request_words rs t (AskingRead x)) cs (request_read t x.0) (refl, refl) request_number_lem
      (λ n. asked (AskingRead x) (lt-ltb _ _ h) n) (λ n. (refused_words (AskingRead x) n, refl))

  pub request_update_follows : (x : Register) (f w : ℕ) → doing_fits cs (AskingUpdate x f w) ≡ true
      → StepFollows rs cs P s (outcome (request_number rs t) (request_words rs t (AskingUpdate x f w)) cs) (good (request_update t x.0 f w))
  unfolding status_of
  request_update_follows x f w h =
      follows rs cs P s z (request_number rs t) (request_words rs t (AskingUpdate x f w)) cs (request_update t x.0 f w) (refl, refl) request_number_lem
      (λ n. asked (AskingUpdate x f w) h n) (λ n. (refused_words (AskingUpdate x f w) n, refl))

  -- ---- step 10

  report_number : (report_answer rs t).result ≡ report_refusal (stage P (s.status t))
  unfolding report_answer report_of status_of
  report_number = rw (z.show.status= t there) (go (doing_at rs t))
    where
      go : (d : Doing) → (report_of d).result ≡ report_refusal (stage P (status_of d))
      go Quiet = refl
      go (AskingRead x) = refl
      go (AskingUpdate x f w) = refl
      go Waiting = refl
      go (DoneRead v) = refl
      go (DoneUpdate v) = refl

  report_answer_lem : report_answer rs t
      ≡ record { result = report_refusal (stage P (s.status t)); value = cond (eqb (report_refusal (stage P (s.status t))) 0) (value_of (s.status t)) 0 }
  unfolding report_answer report_of status_of
  report_answer_lem = rw (z.show.status= t there) (go (doing_at rs t))
    where
      go : (d : Doing) → report_of d ≡ record { result = report_refusal (stage P (status_of d)); value = cond (eqb (report_refusal (stage P (status_of d))) 0) (value_of (status_of d)) 0 }
      go Quiet = refl
      go (AskingRead x) = refl
      go (AskingUpdate x f w) = refl
      go Waiting = refl
      go (DoneRead v) = refl
      go (DoneUpdate v) = refl

  pub report_follows : StepFollows rs cs P s (record { answer = report_answer rs t; registers = report_words rs t; channel = cs }) (good (report t))
  unfolding report_words status_of doing_fits
  report_follows = go (is_taken (report_answer rs t).result) refl
    where
      same : report_answer rs t ≡ answer_decoded P s (good (report t))
      same = report_answer_lem ∙ ap (λ m. record { result = m; value = cond (eqb (report_refusal (stage P (s.status t))) 0) (value_of (s.status t)) 0 }) (sym (result_plain (report_refusal (stage P (s.status t)))))

      test : is_taken (report_answer rs t).result ≡ eqb (report_refusal (stage P (s.status t))) 0
      test = ap is_taken report_number ∙ taken_small (report_refusal (stage P (s.status t))) (refusal_small P mail (answered P) (sight P s) (report t))

      go : (b : Bool) → is_taken (report_answer rs t).result ≡ b → StepFollows rs cs P s (record { answer = report_answer rs t; registers = report_words rs t; channel = cs }) (good (report t))
      go true q = record {
        answer= = same;
        stands = rw (← test, q) (stands (doing_stored rs t Quiet) cs P (effect P s (report t)) (doing_ready Quiet refl));
        refused = λ n. absurd (clash q n);
      }
      go false q = record {
        answer= = same;
        stands = rw (← test, q) (stands rs cs P s z);
        refused = λ n. rw q (refl, refl);
      }
