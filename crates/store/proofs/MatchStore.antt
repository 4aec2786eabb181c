-- Stores that match: starts do, and steps on stores that do lead to stores that do.
use Prim.Native.Nat.{ℕ, ◌≤◌, ◌<◌}
use mathlib.Core.Path.{◌≡◌, refl, sym, ap, ap₂, fun_ext, ◌∙◌}
use mathlib.Core.Bool.{Bool, true, false, cond}
use mathlib.Core.List.{List, [], ◌∷◌}
use native.Mathlib.Decide.{dec_lt}
use native.Mathlib.Omega.{arith}
use borrow.Author.Tests.{eq-eqb}
use lib.ListN.{length, get_or, replicate, length-replicate, get_or-replicate, get_or-eq_default}
use lib.Seq.{get_or-set_other}
use Rattle.lists.specs.Loops.{turns_keeps}
use Rattle.std.specs.Prelude.{Result, Ok, Err}
use Rattle.names.specs.declared.Answer.{Answer}
use Rattle.names.specs.declared.refusals.Refusal.{Refusal}
use Rattle.names.specs.Placement.{Placement, tasks, registers, placement_refusal}
use Rattle.channel.specs.Layout.{cards_of, tasks_of, registers_of}
use Rattle.channel.proofs.Offered.{begun_same}
use Rattle.claims.specs.Steps.{RawStep}
use Rattle.commands.specs.declared.Command.{Command}
use Rattle.commands.specs.declared.Command.TheVariants.{RequestRead, RequestUpdate, Perform, SendRead, SendUpdate, Dispatch, TakeBroadcast, TakeSingle, Deliver, Report}
use Rattle.commands.specs.Decode.{decode_of}
use Rattle.tables.specs.declared.Doing.TheVariants.{AskingRead, AskingUpdate}
use Rattle.tables.specs.Layout.{Place, task_word, register_word}
use Rattle.tables.specs.Sized.{store_sized}
use Rattle.tables.specs.Start.{home_set, register_set, start_words, start_registers, start_channel}
use Rattle.tables.specs.Match.{IsLayout, RegistersMatch}
use Rattle.tables.proofs.Match.{relaid, relaid_match, match_unique}
use Rattle.tables.proofs.MatchReads.{sized=}
use Rattle.store.specs.Requests.{bare}
use Rattle.store.specs.Step.{Outcome, outcome, taken_at, decoded_at, advanced_at, stepped_at}
use Rattle.store.specs.Run.{Store, started, next_at, store_after_at, answers_of_at, advance_at, advance_all_at, answers_advancing_at}
use Rattle.store.specs.Match.{MatchAt, StepMatches, AdvanceMatches, Matching, LayoutsMatch}
use Rattle.store.proofs.Placed.{channel_sizes}
use Rattle.store.proofs.StartLaw.{start_stands, start_refused}
use Rattle.store.proofs.MatchSteps.{request=, request_match, report=, report_match, perform=, perform_match, read_sent=, read_sent_match, update_sent=, update_sent_match, dispatch=, dispatch_match, dispatch_channel=, deliver=, deliver_match, deliver_channel=}

-- ---- starts: no word of the table is written

-- every copy is 0
abbrev Blank : List ℕ → Type 0
Blank ws = (k : ℕ) → 65 ≤ k → get_or ws k 0 ≡ 0

blank : Blank (replicate 593 0)
blank k h = go (dec_lt k 593)
  where
    go : Dec (k < 593) → get_or (replicate {A = ℕ} 593 0) k 0 ≡ 0
    go (yes l) = get_or-replicate {A = ℕ} 593 k 0 0 l
    go (no n) = get_or-eq_default (replicate {A = ℕ} 593 0) 0 {n = k} (rw (length-replicate {A = ℕ} 593 0) (omega arith))

homed : (homes : List ℕ) (t : ℕ) (ws : List ℕ) → Blank ws → Blank (home_set homes t ws)
unfolding home_set
homed homes t ws e k h = get_or-set_other ws (task_word t) k _ 0 (omega arith) ∙ e k h

lying : (copies primaries : List ℕ) (x : ℕ) (ws : List ℕ) → Blank ws → Blank (register_set copies primaries x ws)
unfolding register_set
lying copies primaries x ws e k h = get_or-set_other ws (register_word x) k _ 0 (omega arith) ∙ e k h

start_blank : (P : Placement) → Blank (start_words P)
unfolding start_words
start_blank P =
    turns_keeps Blank (register_set P.copies P.primaries) (registers P) _ (λ x ws h. lying P.copies P.primaries x ws)
    (turns_keeps Blank (home_set P.homes) (tasks P) (replicate 593 0) (λ t ws h. homed P.homes t ws) blank)

module _ (p q : Place) (a : IsLayout p) (b : IsLayout q) where
  start_match : (P : Placement) → placement_refusal P ≡ 0 → (m n : Store) → MatchAt p q (started P m) (started P n)
  unfolding start_registers start_channel
  start_match P ok m n =
      let l : length (start_words P) ≡ 593 = rw (eq-eqb (placement_refusal P) 0 ok) at (start_stands P ok m).long in
      rw (eq-eqb (placement_refusal P) 0 ok)
      (record {
        registers = record {
          long = l;
          long' = l;
          alike = record {
            copy= = λ i x. start_blank P (p i x) (a.inside i x).0 ∙ sym (start_blank P (q i x) (b.inside i x).0);
            word= = λ k h. refl;
          };
        };
        channel= = begun_same m.channel n.channel P.cards (tasks P) (registers P) (channel_sizes P ok);
      })

  -- ---- a step

  pub record Outcomes (o u : Outcome) : Type 0 where
    pub answer= : o.answer ≡ u.answer
    pub registers : RegistersMatch p q o.registers u.registers
    pub channel= : o.channel ≡ u.channel

  plain : {rs us cs ds : List ℕ} {n k : ℕ} → n ≡ k → RegistersMatch p q rs us → cs ≡ ds → Outcomes (outcome n rs cs) (outcome k us ds)
  plain e z c = record { answer= = ap bare e; registers = z; channel= = c }

  module _ (rs us : List ℕ) (z : RegistersMatch p q rs us) (cs : List ℕ) where
    taken_match : (c : Command) → Outcomes (taken_at p rs cs c) (taken_at q us cs c)
    taken_match (RequestRead t x) = plain (request= p q a b rs us z t.0) (request_match p q a b rs us z t.0 (AskingRead x)) refl
    taken_match (RequestUpdate t x f w) = plain (request= p q a b rs us z t.0) (request_match p q a b rs us z t.0 (AskingUpdate x f w)) refl
    taken_match (Perform t) = plain (perform= p q a b rs us z t.0) (perform_match p q a b rs us z t.0) refl
    taken_match (SendRead t j) = plain (read_sent= p q a b rs us z t.0 j.0) (read_sent_match p q a b rs us z t.0 j.0) refl
    taken_match (SendUpdate t) = plain (update_sent= p q a b rs us z t.0) (update_sent_match p q a b rs us z t.0) refl
    taken_match (Dispatch i) = plain (dispatch= p q a b rs us z cs i) (dispatch_match p q a b rs us z cs i) (dispatch_channel= p q a b rs us z cs i)
    taken_match (TakeBroadcast i) = plain refl z refl
    taken_match (TakeSingle t) = plain refl z refl
    taken_match (Deliver i) = plain (deliver= p q a b rs us z cs i) (deliver_match p q a b rs us z cs i) (deliver_channel= p q a b rs us z cs i)
    taken_match (Report t) = record { answer= = report= p q a b rs us z t.0; registers = report_match p q a b rs us z t.0; channel= = refl }

    decoded_match : (d : Result Command Refusal) → Outcomes (decoded_at p rs cs d) (decoded_at q us cs d)
    decoded_match (Ok c) = taken_match c
    decoded_match (Err e) = plain refl z refl

    advanced_match : (code : ℕ) (argument : List ℕ) → Outcomes (advanced_at p rs cs code argument) (advanced_at q us cs code argument)
    advanced_match code argument = decoded_match (decode_of code argument (cards_of cs) (registers_of cs) (tasks_of cs))

    stepped_match : (code : ℕ) (argument : List ℕ) → Outcomes (stepped_at p rs cs code argument) (stepped_at q us cs code argument)
    stepped_match code argument = rw (sized= p q rs us z.alike cs) (go (store_sized us cs))
      where
        go : (t : Bool) → Outcomes (cond t (advanced_at p rs cs code argument) (outcome 6 rs cs)) (cond t (advanced_at q us cs code argument) (outcome 6 us cs))
        go true = advanced_match code argument
        go false = plain refl z refl

  -- ---- of stores

  step_match : (m n : Store) → MatchAt p q m n → (s : RawStep) → StepMatches p q m n s
  step_match m n z s =
      let o : Outcomes (stepped_at p m.registers m.channel s.code s.argument) (stepped_at q n.registers n.channel s.code s.argument) =
      rw z.channel= (stepped_match m.registers n.registers z.registers n.channel s.code s.argument) in
      record { answer= = o.answer=; next = record { registers = o.registers; channel= = o.channel= } }

  advance_match : (m n : Store) → MatchAt p q m n → (s : RawStep) → AdvanceMatches p q m n s
  advance_match m n z s =
      let o : Outcomes (advanced_at p m.registers m.channel s.code s.argument) (advanced_at q n.registers n.channel s.code s.argument) =
      rw z.channel= (advanced_match m.registers n.registers z.registers n.channel s.code s.argument) in
      record { answer= = o.answer=; next = record { registers = o.registers; channel= = o.channel= } }

  answers_match : (m n : Store) → MatchAt p q m n → (l : List RawStep) → answers_of_at p m l ≡ answers_of_at q n l
  answers_match m n z [] = refl
  answers_match m n z (s ∷ l) =
      let k = step_match m n z s in
      ap₂ (λ (x : Answer) (y : List Answer). x ∷ y) k.answer= (answers_match (next_at p m s) (next_at q n s) k.next l)

  after_match : (m n : Store) → MatchAt p q m n → (l : List RawStep) → MatchAt p q (store_after_at p m l) (store_after_at q n l)
  after_match m n z [] = z
  after_match m n z (s ∷ l) = after_match (next_at p m s) (next_at q n s) (step_match m n z s).next l

  unchecked_answers_match : (m n : Store) → MatchAt p q m n → (l : List RawStep) → answers_advancing_at p m l ≡ answers_advancing_at q n l
  unchecked_answers_match m n z [] = refl
  unchecked_answers_match m n z (s ∷ l) =
      let k = advance_match m n z s in
      ap₂ (λ (x : Answer) (y : List Answer). x ∷ y) k.answer= (unchecked_answers_match (advance_at p m s) (advance_at q n s) k.next l)

  unchecked_after_match : (m n : Store) → MatchAt p q m n → (l : List RawStep) → MatchAt p q (advance_all_at p m l) (advance_all_at q n l)
  unchecked_after_match m n z [] = z
  unchecked_after_match m n z (s ∷ l) = unchecked_after_match (advance_at p m s) (advance_at q n s) (advance_match m n z s).next l

  pub matching : Matching p q
  matching = record {
    start = start_match;
    no_start = λ P r m n z. rw (start_refused P r m, start_refused P r n) z;
    step = step_match;
    advance = advance_match;
    answers = answers_match;
    after = after_match;
    unchecked_answers = unchecked_answers_match;
    unchecked_after = unchecked_after_match;
    like = λ n l. (record { registers = relaid p q a b n.registers; channel = n.channel }, record { registers = relaid_match p q a b n.registers l; channel= = refl });
    one = λ m n o y z. ap₂ (λ r c. record { registers = r; channel = c })
        (match_unique p q a b m.registers n.registers o.registers y.registers z.registers) (sym y.channel= ∙ z.channel=);
    table = λ m n z. fun_ext (λ i. fun_ext (λ x. z.registers.alike.copy= i x));
  }

pub layouts_match : LayoutsMatch
layouts_match p q a b = matching p q a b
