-- From registers' memories that match, over the same channel, each of the ten steps gives the same number and leaves matching memories.
use Prim.Native.Nat.{ℕ, ◌+◌}
use mathlib.Core.Path.{◌≡◌, refl, ap}
use mathlib.Core.Logic.{inl}
use mathlib.Core.List.{List}
use native.Mathlib.Omega.{arith}
use lib.Dec.{eqb}
use Rattle.names.specs.declared.Body.{Body}
use Rattle.names.specs.declared.Body.TheVariants.{ReadDo, ReadReply, UpdateDo, UpdateReply}
use Rattle.names.specs.declared.Card.{Card}
use Rattle.names.specs.Results.{is_taken}
use Rattle.names.specs.Update.{updated}
use Rattle.std.specs.Prelude.{Result, Ok, Err}
use Rattle.names.specs.declared.Message.{Message}
use Rattle.names.specs.declared.refusals.Refusal.{Refusal}
use Rattle.channel.specs.Inbox.{receive_answer}
use Rattle.tables.specs.declared.Doing.{Doing}
use Rattle.tables.specs.declared.Doing.TheVariants.{Quiet, AskingRead, AskingUpdate, Waiting, DoneRead, DoneUpdate}
use Rattle.tables.specs.Layout.{Place, copy_at, requests_word, requests_of, home_of, holders_of, holds, only_card}
use Rattle.tables.specs.Doings.{doing_at}
use Rattle.tables.specs.Outbox.{roomy, letter_for}
use Rattle.tables.specs.Match.{IsLayout, RegistersMatch}
use Rattle.tables.proofs.Match.{word_match, copy_match}
use Rattle.tables.proofs.MatchReads.{requests=, home=, doing=, holders=, primary=, holds=, out_count=, roomy=, first=}
use Rattle.tables.proofs.MatchWrites.{cond_match, doing_match, posted_match, unposted_match}
use Rattle.store.specs.Requests.{request_number, request_words, report_of, report_answer, report_words}
use Rattle.store.specs.Perform.{alone, perform_read_number, perform_update_number, perform_number_of, perform_number, copy_updated_at, perform_words_of_at, perform_words_at}
use Rattle.store.specs.Send.{sent, send_read_number, send_read_words, send_update_number, send_update_words, read_number_of, read_words_of, update_number_of, update_words_of, read_sent_number, read_sent_words, update_sent_number, update_sent_words}
use Rattle.store.specs.Traffic.{dispatch_number, dispatch_registers, dispatch_channel}
use Rattle.store.specs.Deliver.{replied, applied_at, replies_here, body_number, body_words_at, found_number, found_words_at, deliver_number, deliver_registers_at, deliver_channel}

module _ (p q : Place) (a : IsLayout p) (b : IsLayout q) (rs us : List ℕ) (z : RegistersMatch p q rs us) where
  -- ---- steps 1, 2 and 10

  pub request= : (t : ℕ) → request_number rs t ≡ request_number us t
  unfolding request_number
  request= t = rw (doing= p q rs us z.alike t, requests= p q rs us z.alike)

  pub request_match : (t : ℕ) (d : Doing) → RegistersMatch p q (request_words rs t d) (request_words us t d)
  unfolding request_words
  request_match t d =
      rw (request= t, requests= p q rs us z.alike)
      (cond_match (eqb (request_number us t) 0) (word_match p q a b _ _ (doing_match p q a b rs us z t d) requests_word (requests_of us + 1) (inl (omega arith))) z)

  pub report= : (t : ℕ) → report_answer rs t ≡ report_answer us t
  unfolding report_answer
  report= t = ap report_of (doing= p q rs us z.alike t)

  pub report_match : (t : ℕ) → RegistersMatch p q (report_words rs t) (report_words us t)
  unfolding report_words
  report_match t = rw (report= t) (cond_match (is_taken (report_answer us t).result) (doing_match p q a b rs us z t Quiet) z)

  -- ---- step 3

  alone= : (x i : ℕ) → alone rs x i ≡ alone us x i
  unfolding alone
  alone= x i = rw (holds= p q rs us z.alike x i, holders= p q rs us z.alike x)

  perform_of= : (t : ℕ) (d : Doing) → perform_number_of rs t d ≡ perform_number_of us t d
  unfolding perform_number_of perform_read_number perform_update_number
  perform_of= t Quiet = refl
  perform_of= t (AskingRead x) = rw (home= p q rs us z.alike t, holds= p q rs us z.alike x.0 (home_of us t))
  perform_of= t (AskingUpdate x f w) = rw (home= p q rs us z.alike t, alone= x.0 (home_of us t))
  perform_of= t Waiting = refl
  perform_of= t (DoneRead v) = refl
  perform_of= t (DoneUpdate v) = refl

  pub perform= : (t : ℕ) → perform_number rs t ≡ perform_number us t
  unfolding perform_number
  perform= t = rw (doing= p q rs us z.alike t) (perform_of= t (doing_at us t))

  pub updated_match : (i x f w : ℕ) → RegistersMatch p q (copy_updated_at p rs i x f w) (copy_updated_at q us i x f w)
  unfolding copy_updated_at
  updated_match i x f w = rw (z.alike.copy= i x) (copy_match p q a b rs us z i x (updated f w (copy_at q us i x)))

  perform_of_match : (t : ℕ) (d : Doing) → RegistersMatch p q (perform_words_of_at p rs t d) (perform_words_of_at q us t d)
  perform_of_match t Quiet = z
  perform_of_match t (AskingRead x) =
      rw (home= p q rs us z.alike t, holds= p q rs us z.alike x.0 (home_of us t), z.alike.copy= (home_of us t) x.0)
      (cond_match (holds us x.0 (home_of us t)) (doing_match p q a b rs us z t (DoneRead (copy_at q us (home_of us t) x.0))) z)
  perform_of_match t (AskingUpdate x f w) =
      rw (home= p q rs us z.alike t, alone= x.0 (home_of us t), z.alike.copy= (home_of us t) x.0)
      (cond_match (alone us x.0 (home_of us t)) (doing_match p q a b _ _ (updated_match (home_of us t) x.0 f w) t (DoneUpdate (copy_at q us (home_of us t) x.0))) z)
  perform_of_match t Waiting = z
  perform_of_match t (DoneRead v) = z
  perform_of_match t (DoneUpdate v) = z

  pub perform_match : (t : ℕ) → RegistersMatch p q (perform_words_at p rs t) (perform_words_at q us t)
  perform_match t = rw (doing= p q rs us z.alike t) (perform_of_match t (doing_at us t))

  -- ---- steps 4 and 5

  sent_match : (t x : ℕ) (c : Body) (to : ℕ) → RegistersMatch p q (sent rs t x c to) (sent us t x c to)
  unfolding sent
  sent_match t x c to = rw (home= p q rs us z.alike t) (doing_match p q a b _ _ (posted_match p q a b rs us z (home_of us t) (letter_for t x c to)) t Waiting)

  send_read= : (t j x : ℕ) → send_read_number rs t j x ≡ send_read_number us t j x
  unfolding send_read_number
  send_read= t j x =
      rw (home= p q rs us z.alike t, holds= p q rs us z.alike x (home_of us t), holds= p q rs us z.alike x j, roomy= p q rs us z.alike (home_of us t))

  send_update= : (t x : ℕ) → send_update_number rs t x ≡ send_update_number us t x
  unfolding send_update_number
  send_update= t x = rw (home= p q rs us z.alike t, alone= x (home_of us t), holders= p q rs us z.alike x, roomy= p q rs us z.alike (home_of us t))

  read_of= : (t j : ℕ) (d : Doing) → read_number_of rs t j d ≡ read_number_of us t j d
  unfolding read_number_of
  read_of= t j Quiet = refl
  read_of= t j (AskingRead x) = send_read= t j x.0
  read_of= t j (AskingUpdate x f w) = refl
  read_of= t j Waiting = refl
  read_of= t j (DoneRead v) = refl
  read_of= t j (DoneUpdate v) = refl

  read_of_match : (t j : ℕ) (d : Doing) → RegistersMatch p q (read_words_of rs t j d) (read_words_of us t j d)
  unfolding read_words_of send_read_words
  read_of_match t j Quiet = z
  read_of_match t j (AskingRead x) = rw (send_read= t j x.0) (cond_match (eqb (send_read_number us t j x.0) 0) (sent_match t x.0 ReadDo (only_card j)) z)
  read_of_match t j (AskingUpdate x f w) = z
  read_of_match t j Waiting = z
  read_of_match t j (DoneRead v) = z
  read_of_match t j (DoneUpdate v) = z

  update_of= : (t : ℕ) (d : Doing) → update_number_of rs t d ≡ update_number_of us t d
  unfolding update_number_of
  update_of= t Quiet = refl
  update_of= t (AskingRead x) = refl
  update_of= t (AskingUpdate x f w) = send_update= t x.0
  update_of= t Waiting = refl
  update_of= t (DoneRead v) = refl
  update_of= t (DoneUpdate v) = refl

  update_of_match : (t : ℕ) (d : Doing) → RegistersMatch p q (update_words_of rs t d) (update_words_of us t d)
  unfolding update_words_of send_update_words
  update_of_match t Quiet = z
  update_of_match t (AskingRead x) = z
  update_of_match t (AskingUpdate x f w) =
      rw (send_update= t x.0, holders= p q rs us z.alike x.0)
      (cond_match (eqb (send_update_number us t x.0) 0) (sent_match t x.0 (UpdateDo f w) (holders_of us x.0)) z)
  update_of_match t Waiting = z
  update_of_match t (DoneRead v) = z
  update_of_match t (DoneUpdate v) = z

  pub read_sent= : (t j : ℕ) → read_sent_number rs t j ≡ read_sent_number us t j
  unfolding read_sent_number
  read_sent= t j = rw (doing= p q rs us z.alike t) (read_of= t j (doing_at us t))

  pub read_sent_match : (t j : ℕ) → RegistersMatch p q (read_sent_words rs t j) (read_sent_words us t j)
  unfolding read_sent_words
  read_sent_match t j = rw (doing= p q rs us z.alike t) (read_of_match t j (doing_at us t))

  pub update_sent= : (t : ℕ) → update_sent_number rs t ≡ update_sent_number us t
  unfolding update_sent_number
  update_sent= t = rw (doing= p q rs us z.alike t) (update_of= t (doing_at us t))

  pub update_sent_match : (t : ℕ) → RegistersMatch p q (update_sent_words rs t) (update_sent_words us t)
  unfolding update_sent_words
  update_sent_match t = rw (doing= p q rs us z.alike t) (update_of_match t (doing_at us t))

  -- ---- step 6

  module _ (cs : List ℕ) (i : Card) where
    pub dispatch= : dispatch_number rs cs i ≡ dispatch_number us cs i
    unfolding dispatch_number
    dispatch= = rw (out_count= p q rs us z.alike i.0, first= p q rs us z.alike i.0)

    pub dispatch_match : RegistersMatch p q (dispatch_registers rs cs i) (dispatch_registers us cs i)
    unfolding dispatch_registers
    dispatch_match = rw dispatch= (cond_match (is_taken (dispatch_number us cs i)) (unposted_match p q a b rs us z i.0) z)

    pub dispatch_channel= : dispatch_channel rs cs i ≡ dispatch_channel us cs i
    unfolding dispatch_channel
    dispatch_channel= = rw (out_count= p q rs us z.alike i.0, first= p q rs us z.alike i.0)

  -- ---- step 9

  replies= : (i t x : ℕ) → replies_here rs i t x ≡ replies_here us i t x
  unfolding replies_here
  replies= i t x = rw (home= p q rs us z.alike t, primary= p q rs us z.alike x, holds= p q rs us z.alike x (home_of us t))

  body= : (i t x : ℕ) (c : Body) → body_number rs i t x c ≡ body_number us i t x c
  unfolding body_number
  body= i t x ReadDo = rw (roomy= p q rs us z.alike i)
  body= i t x (ReadReply v) = refl
  body= i t x (UpdateDo f w) = rw (replies= i t x, roomy= p q rs us z.alike i)
  body= i t x (UpdateReply v) = refl

  applied_match : (i t x f w : ℕ) → RegistersMatch p q (applied_at p rs i t x f w) (applied_at q us i t x f w)
  unfolding applied_at
  applied_match i t x f w =
      rw (home= p q rs us z.alike t, z.alike.copy= i x)
      (cond_match (eqb i (home_of us t)) (doing_match p q a b _ _ (updated_match i x f w) t (DoneUpdate (copy_at q us i x))) (updated_match i x f w))

replied_match : (p q : Place) → IsLayout p → IsLayout q → (rs us : List ℕ) → RegistersMatch p q rs us → (i t x : ℕ) (c : Body) → RegistersMatch p q (replied rs i t x c) (replied us i t x c)
unfolding replied
replied_match p q a b rs us z i t x c = rw (home= p q rs us z.alike t) (posted_match p q a b rs us z i (letter_for t x c (only_card (home_of us t))))

module _ (p q : Place) (a : IsLayout p) (b : IsLayout q) (rs us : List ℕ) (z : RegistersMatch p q rs us) where
  body_match : (i t x : ℕ) (c : Body) → RegistersMatch p q (body_words_at p rs i t x c) (body_words_at q us i t x c)
  body_match i t x ReadDo =
      rw (roomy= p q rs us z.alike i, z.alike.copy= i x) (cond_match (roomy us i) (replied_match p q a b rs us z i t x (ReadReply (copy_at q us i x))) z)
  body_match i t x (ReadReply v) = doing_match p q a b rs us z t (DoneRead v)
  body_match i t x (UpdateDo f w) =
      rw (replies= p q a b rs us z i t x, roomy= p q rs us z.alike i, z.alike.copy= i x)
      (cond_match (replies_here us i t x)
      (cond_match (roomy us i) (replied_match p q a b _ _ (applied_match p q a b rs us z i t x f w) i t x (UpdateReply (copy_at q us i x))) z)
      (applied_match p q a b rs us z i t x f w))
  body_match i t x (UpdateReply v) = doing_match p q a b rs us z t (DoneUpdate v)

  found= : (i : ℕ) (r : Result Message Refusal) → found_number rs i r ≡ found_number us i r
  unfolding found_number
  found= i r = go r
    where
      go : (r : Result Message Refusal) → found_number rs i r ≡ found_number us i r
      go (Ok m) = body= p q a b rs us z i m.task.0 m.register.0 m.body
      go (Err e) = refl

  found_match : (i : ℕ) (r : Result Message Refusal) → RegistersMatch p q (found_words_at p rs i r) (found_words_at q us i r)
  found_match i (Ok m) = body_match i m.task.0 m.register.0 m.body
  found_match i (Err e) = z

  module _ (cs : List ℕ) (i : Card) where
    pub deliver= : deliver_number rs cs i ≡ deliver_number us cs i
    unfolding deliver_number
    deliver= = found= i.0 (receive_answer cs i)

    pub deliver_match : RegistersMatch p q (deliver_registers_at p rs cs i) (deliver_registers_at q us cs i)
    deliver_match = found_match i.0 (receive_answer cs i)

    pub deliver_channel= : deliver_channel rs cs i ≡ deliver_channel us cs i
    unfolding deliver_channel
    deliver_channel= = rw deliver=
