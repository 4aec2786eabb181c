-- Forgetting the values that updates found commutes with each step (specs/ForgetFound): what it leaves, its refusal, its answer. No state is
-- asked to be a reached one.
use Prim.Native.Nat.{ℕ, suc}
use lib.Dec.{eqb}
use mathlib.Core.Bool.{Bool, cond, false, true}
use mathlib.Core.List.{List, [], map, ◌∷◌}
use mathlib.Core.Path.{ap, ap₂, fun_ext, refl, sym, ◌∙◌, ◌≡◌}
use Rattle.automaton.proofs.RenamedSteps.{channel_step_map}
use Rattle.automaton.specs.Renaming.{Alike, SentAlike, action_map, channel_map}
use Rattle.automaton.specs.State.{ChannelAction, ChannelState, channel_step}
use Rattle.lists.specs.Maps.{map_pop, map_push}
use Rattle.lists.specs.Queues.{push}
use Rattle.names.specs.Placement.{Placement, home}
use Rattle.names.specs.declared.Body as B
use Rattle.names.specs.declared.Body.TheVariants as N
use Rattle.claims.proofs.Renaming.{refusal_map, result_map, sight_map}
use Rattle.claims.specs.Command.{Command}
use Rattle.claims.specs.ForgetFound.{Commutes, forget, forget_answer, forget_answers, forget_at, forget_body, forget_doing, forget_letter, forget_value}
use Rattle.claims.specs.Found.{Found}
use Rattle.claims.specs.Messages.{UpdateReply}
use Rattle.claims.specs.Published.{Doing, Letter, Published, answered, command_refusal, delivering, dispatching, effect, mail, done_update, performing, post, receiving, replies, reply_to, sending_read, sending_update, set_status, sight, stage}
use Rattle.claims.specs.PublishedRun.{after_decoded, answer_decoded, answers_from, command_result, final_from, value_at, value_of}
use Rattle.claims.specs.Refusals.{refusal}
use Rattle.claims.specs.Results.{result}
use Rattle.claims.specs.Steps.{Decoded, RawStep, bad, decode, good}
use Rattle.automaton.specs.State as C
use Rattle.claims.specs.Command as K
use Rattle.claims.specs.Found as F
use Rattle.claims.specs.FoundRun as R

-- the channel reads the same off a letter with its value found and without
pub alike : Alike forget_letter F.mail mail
alike = record { task= = λ m. refl; multi= = λ m. refl; dest= = λ m. refl }

forget_if : (t : Bool) (v w : F.Doing) → cond t (forget_doing v) (forget_doing w) ≡ forget_doing (cond t v w)
forget_if true v w = refl
forget_if false v w = refl

abbrev made : ℕ → (ℕ → Doing) → (ℕ → ℕ → ℕ) → (ℕ → List Letter) → ChannelState Letter → Published
made n f t o w = record { requests = n; status = f; table = t; out = o; channel = w }

-- two published states that agree part by part
agree : (n : ℕ) (t : ℕ → ℕ → ℕ) {f g : ℕ → Doing} {o p : ℕ → List Letter} {v w : ChannelState Letter}
    → ((c : ℕ) → f c ≡ g c) → ((i : ℕ) → o i ≡ p i) → v ≡ w
    → made n f t o v ≡ made n g t p w
agree n t a b c = λ j. record { requests = n; status = λ x. a x j; table = t; out = λ i. b i j; channel = c j }

module _ (P : Placement) where
  same_stage : (d : F.Doing) → stage P (forget_doing d) ≡ F.stage P d
  same_stage F.quiet = refl
  same_stage (F.asking_read x) = refl
  same_stage (F.asking_update x f w) = refl
  same_stage F.waiting = refl
  same_stage (F.done_read v) = refl
  same_stage (F.done_update v) = refl

  replies_alike : (m : F.Letter) (i : ℕ) (b : B.Body) → replies P (forget_letter m) i (forget_body b) ≡ F.replies P m i b
  replies_alike m i N.ReadDo = refl
  replies_alike m i (N.ReadReply v) = refl
  replies_alike m i (N.UpdateDo f w) = refl
  replies_alike m i (N.UpdateReply v) = refl

  module _ (s : Found) where
    sent_alike : SentAlike forget_letter F.mail mail s.channel
    sent_alike n m e i = refl

    -- ---- which steps are taken

    same_sight : sight P (forget s) ≡ sight_map forget_letter (F.sight P s)
    same_sight =
        ap (λ g. record { requests = s.requests; stage = g; out = λ i. map forget_letter (s.out i); channel = channel_map forget_letter s.channel })
        (fun_ext (λ c. same_stage (s.status c)))

    pub refusal_forgets : (c : Command) → command_refusal P (forget s) c ≡ F.command_refusal P s c
    refusal_forgets c =
        ap (λ u. refusal P mail (answered P) u c) same_sight
        ∙ refusal_map P forget_letter F.mail mail alike (F.answered P) (answered P) (F.sight P s) sent_alike (λ i m r e. replies_alike m i m.body) c

    pub result_forgets : (c : Command) → command_result P (forget s) c ≡ R.command_result P s c
    result_forgets c =
        ap (λ u. result P mail (answered P) u c) same_sight
        ∙ result_map P forget_letter F.mail mail alike (F.answered P) (answered P) (F.sight P s) sent_alike (λ i m r e. replies_alike m i m.body) c

    -- ---- what a taken step does

    channels : (x : ChannelAction F.Letter) → channel_step mail (channel_map forget_letter s.channel) (action_map forget_letter x) ≡ channel_map forget_letter (channel_step F.mail s.channel x)
    channels x = channel_step_map forget_letter F.mail mail alike s.channel sent_alike x

    statuses : (c : ℕ) (v : F.Doing) (d : ℕ) → cond (eqb c d) (forget_doing v) (forget_doing (s.status d)) ≡ forget_doing (F.set_status c v s.status d)
    statuses c v d = forget_if (eqb c d) v (s.status d)

    posts : (i : ℕ) (m : F.Letter) (j : ℕ) → push (eqb j i) (forget_letter m) (map forget_letter (s.out j)) ≡ map forget_letter (push (eqb j i) m (s.out j))
    posts i m j = sym (map_push forget_letter (eqb j i) m (s.out j))

    performs : (c i : ℕ) (d : F.Doing) → performing (forget s) c i (forget_doing d) ≡ forget (F.performing s c i d)
    performs c i F.quiet = refl
    performs c i (F.asking_read x) = agree s.requests s.table (statuses c (F.done_read _)) (λ j. refl) refl
    performs c i (F.asking_update x f w) = agree s.requests _ (statuses c (F.done_update _)) (λ j. refl) refl
    performs c i F.waiting = refl
    performs c i (F.done_read v) = refl
    performs c i (F.done_update v) = refl

    send_reads : (c j : ℕ) (d : F.Doing) → sending_read P (forget s) c j (forget_doing d) ≡ forget (F.sending_read P s c j d)
    send_reads c j F.quiet = refl
    send_reads c j (F.asking_read x) = agree s.requests s.table (statuses c F.waiting) (posts (home P c) _) refl
    send_reads c j (F.asking_update x f w) = refl
    send_reads c j F.waiting = refl
    send_reads c j (F.done_read v) = refl
    send_reads c j (F.done_update v) = refl

    send_updates : (c : ℕ) (d : F.Doing) → sending_update P (forget s) c (forget_doing d) ≡ forget (F.sending_update P s c d)
    send_updates c F.quiet = refl
    send_updates c (F.asking_read x) = refl
    send_updates c (F.asking_update x f w) = agree s.requests s.table (statuses c F.waiting) (posts (home P c) _) refl
    send_updates c F.waiting = refl
    send_updates c (F.done_read v) = refl
    send_updates c (F.done_update v) = refl

    dispatches : (i : ℕ) (l : List F.Letter) → dispatching P (forget s) i (map forget_letter l) ≡ forget (F.dispatching P s i l)
    dispatches i [] = refl
    dispatches i (m ∷ r) = agree s.requests s.table (λ c. refl) (λ j. sym (map_pop forget_letter (eqb j i) (s.out j))) (channels (C.dispatch i m))

    receives : (i : ℕ) (m : F.Letter) (b : B.Body) → receiving P (forget s) i (forget_letter m) (forget_body b) ≡ forget (F.receiving P s i m b)
    receives i m N.ReadDo = agree s.requests s.table (λ c. refl) (posts i _) (channels (C.deliver i))
    receives i m (N.ReadReply v) = agree s.requests s.table (statuses m.task (F.done_read v)) (λ j. refl) (channels (C.deliver i))
    receives i m (N.UpdateDo f w) = agree s.requests _ (ends _ (eqb i (home P m.task))) (answers _ (F.replies P m i (N.UpdateDo f w))) (channels (C.deliver i))
      where
        -- whatever value was found
        ends : (v : ℕ) (t : Bool) (c : ℕ)
            → cond t (set_status m.task done_update (forget s).status) (forget s).status c ≡ forget_doing (cond t (F.set_status m.task (F.done_update v) s.status) s.status c)
        ends v true c = statuses m.task (F.done_update v) c
        ends v false c = refl

        answers : (v : ℕ) (t : Bool) (j : ℕ)
            → cond t (post i (reply_to P (forget_letter m) UpdateReply) (forget s).out) (forget s).out j ≡ map forget_letter (cond t (F.post i (F.reply_to P m (N.UpdateReply v)) s.out) s.out j)
        answers v true j = posts i (F.reply_to P m (N.UpdateReply v)) j
        answers v false j = refl
    receives i m (N.UpdateReply v) = agree s.requests s.table (statuses m.task (F.done_update v)) (λ j. refl) (channels (C.deliver i))

    delivers : (i : ℕ) (l : List F.Letter) → delivering P (forget s) i (map forget_letter l) ≡ forget (F.delivering P s i l)
    delivers i [] = refl
    delivers i (m ∷ r) = receives i m m.body

    pub effect_forgets : (c : Command) → effect P (forget s) c ≡ forget (F.effect P s c)
    effect_forgets (K.request_read c x) = agree (suc s.requests) s.table (statuses c (F.asking_read x)) (λ j. refl) refl
    effect_forgets (K.request_update c x f w) = agree (suc s.requests) s.table (statuses c (F.asking_update x f w)) (λ j. refl) refl
    effect_forgets (K.perform c) = performs c (home P c) (s.status c)
    effect_forgets (K.send_read c j) = send_reads c j (s.status c)
    effect_forgets (K.send_update c) = send_updates c (s.status c)
    effect_forgets (K.dispatch i) = dispatches i (s.out i)
    effect_forgets (K.take_broadcast i) = agree s.requests s.table (λ c. refl) (λ j. refl) (channels (C.take_broadcast i))
    effect_forgets (K.take_single c) = agree s.requests s.table (λ c. refl) (λ j. refl) (channels (C.take_single c))
    effect_forgets (K.deliver i) = delivers i (s.channel.inbox i)
    effect_forgets (K.report c) = agree s.requests s.table (statuses c F.quiet) (λ j. refl) refl

    -- ---- what it answers

    value_forgets : (d : F.Doing) (t : Bool) → forget_value d (cond t (R.value_of d) 0) ≡ cond t (value_of (forget_doing d)) 0
    value_forgets F.quiet t = refl
    value_forgets (F.asking_read x) t = refl
    value_forgets (F.asking_update x f w) t = refl
    value_forgets F.waiting t = refl
    value_forgets (F.done_read v) t = refl
    value_forgets (F.done_update v) true = refl
    value_forgets (F.done_update v) false = refl

    at_forgets : (c : Command) (t : Bool) → forget_at s c (cond t (R.value_at s c) 0) ≡ cond t (value_at (forget s) c) 0
    at_forgets (K.request_read c x) t = refl
    at_forgets (K.request_update c x f w) t = refl
    at_forgets (K.perform c) t = refl
    at_forgets (K.send_read c j) t = refl
    at_forgets (K.send_update c) t = refl
    at_forgets (K.dispatch i) t = refl
    at_forgets (K.take_broadcast i) t = refl
    at_forgets (K.take_single c) t = refl
    at_forgets (K.deliver i) t = refl
    at_forgets (K.report c) t = value_forgets (s.status c) t

    answer_forgets : (d : Decoded) → forget_answer s d (R.answer_decoded P s d) ≡ answer_decoded P (forget s) d
    answer_forgets (bad n) = refl
    answer_forgets (good c) =
        ap₂ (λ n v. record { result = n; value = v }) (sym (result_forgets c))
        (at_forgets c (eqb (F.command_refusal P s c) 0) ∙ ap (λ n. cond (eqb n 0) (value_at (forget s) c) 0) (sym (refusal_forgets c)))

    -- the result is the same
    pub result_same : (d : Decoded) → (R.answer_decoded P s d).result ≡ (answer_decoded P (forget s) d).result
    result_same (bad n) = refl
    result_same (good c) = sym (result_forgets c)

    after_forgets : (d : Decoded) → forget (R.after_decoded P s d) ≡ after_decoded P (forget s) d
    after_forgets (bad n) = refl
    after_forgets (good c) =
        go (eqb (F.command_refusal P s c) 0)
        ∙ ap₂ (λ n z. cond (eqb n 0) z (forget s)) (sym (refusal_forgets c)) (sym (effect_forgets c))
      where
        go : (t : Bool) → forget (cond t (F.effect P s c) s) ≡ cond t (forget (F.effect P s c)) (forget s)
        go true = refl
        go false = refl

  -- ---- a list of steps

  final_forgets : (s : Found) (l : List RawStep) → forget (R.final_from P s l) ≡ final_from P (forget s) l
  final_forgets s [] = refl
  final_forgets s (a ∷ l) = final_forgets (R.after_decoded P s (decode P a)) l ∙ ap (λ z. final_from P z l) (after_forgets s (decode P a))

  answers_forget : (s : Found) (l : List RawStep) → forget_answers P s l (R.answers_from P s l) ≡ answers_from P (forget s) l
  answers_forget s [] = refl
  answers_forget s (a ∷ l) =
      ap₂ (λ x r. x ∷ r) (answer_forgets s (decode P a))
      (answers_forget (R.after_decoded P s (decode P a)) l ∙ ap (λ z. answers_from P z l) (after_forgets s (decode P a)))

  pub commutes : Commutes P
  commutes = record { start = refl; after = after_forgets; answer = answer_forgets; final = final_forgets; answers = answers_forget }
