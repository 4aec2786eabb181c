-- A packet written is the packet read, and no other word changes; a letter whose fields have room is carried as it is.
use Rattle.std.proofs.Common.{◌≡◌, ℕ, ◌+◌, ◌<◌, ◌≤◌, ◌≢◌, List, length, get_or, set, refl, ◌∙◌, arith, length-set, get_or-set_other, get_or-set_same}
use Rattle.names.specs.declared.Letter.{Letter}
use Rattle.names.specs.declared.Packet.{Packet}
use Rattle.names.specs.declared.Body.{Body}
use Rattle.names.specs.declared.Body.TheVariants.{ReadDo, ReadReply, UpdateDo, UpdateReply}
use Rattle.names.specs.Letters.{kind_in, task_in, register_in, function_in, to_in, word_of, letter_of, packet_of, Packs, packet_at, letter_at, tag_at, stored, marked, body_of, kind_of, function_of, value_of}

-- ---- a letter in a packet

pub body_back : (y : Body) → body_of (kind_of y) (function_of y) (value_of y) ≡ y
unfolding body_of kind_of function_of value_of
body_back ReadDo = refl
body_back (ReadReply v) = refl
body_back (UpdateDo f v) = refl
body_back (UpdateReply v) = refl

-- a body is of one of the four kinds
pub kind_some : (y : Body) → (1 ≤ kind_of y) × (kind_of y ≤ 4)
unfolding kind_of
kind_some ReadDo = (omega arith, omega arith)
kind_some (ReadReply v) = (omega arith, omega arith)
kind_some (UpdateDo f v) = (omega arith, omega arith)
kind_some (UpdateReply v) = (omega arith, omega arith)

-- the fields of a word made of fields
module _ (k t x f to : ℕ) where
  pub kind_back : k < 8 → kind_in (word_of k t x f to) ≡ k
  unfolding kind_in word_of
  kind_back h = omega arith

  task_back : t < 16 → task_in (word_of k t x f to) ≡ t
  unfolding task_in word_of
  task_back h = omega arith

  register_back : x < 32 → register_in (word_of k t x f to) ≡ x
  unfolding register_in word_of
  register_back h = omega arith

  function_back : f < 8 → function_in (word_of k t x f to) ≡ f
  unfolding function_in word_of
  function_back h = omega arith

  to_back : to < 131072 → to_in (word_of k t x f to) ≡ to
  unfolding to_in word_of
  to_back h = omega arith

module _ (l : Letter) where
  abbrev y : Body
  y = l.message.body

  abbrev w : ℕ
  w = (packet_of l).word

  pub kind_carried : kind_in w ≡ kind_of y
  unfolding packet_of
  kind_carried =
      let h = kind_some y in
      kind_back (kind_of y) l.message.task.0 l.message.register.0 (function_of y) l.to (omega arith)

  pub letter_back : Packs l → letter_of (packet_of l) ≡ l
  unfolding letter_of packet_of
  letter_back s =
      let h = kind_some y in
      let t : ℕ = l.message.task.0 in
      let x : ℕ = l.message.register.0 in
      rw (
        kind_back (kind_of y) t x (function_of y) l.to (omega arith),
        task_back (kind_of y) t x (function_of y) l.to s.task,
        register_back (kind_of y) t x (function_of y) l.to s.register,
        function_back (kind_of y) t x (function_of y) l.to s.function,
        to_back (kind_of y) t x (function_of y) l.to s.to,
        body_back y,
      )

-- ---- words that agree

-- two memories that agree on two words have the same packet there
pub packet_cong : (us ws : List ℕ) (b : ℕ) → ((k : ℕ) → k < 2 → get_or us (b + k) 0 ≡ get_or ws (b + k) 0) → packet_at us b ≡ packet_at ws b
packet_cong us ws b h =
    let z : b + 0 ≡ b = omega arith in
    rw (rw z at (h 0 (omega arith)), h 1 (omega arith))

pub letter_cong : (us ws : List ℕ) (b : ℕ) → ((k : ℕ) → k < 2 → get_or us (b + k) 0 ≡ get_or ws (b + k) 0) → letter_at us b ≡ letter_at ws b
letter_cong us ws b h = rw (packet_cong us ws b h)

-- ---- a packet written

module _ (ws : List ℕ) (b : ℕ) (p : Packet) where
  pub length_stored : length (stored ws b p) ≡ length ws
  unfolding stored
  length_stored = simp length-set

  -- a word outside it
  pub word_other : (a : ℕ) → ((k : ℕ) → k < 2 → a ≢ b + k) → get_or (stored ws b p) a 0 ≡ get_or ws a 0
  unfolding stored
  word_other a h =
      let h0 : a ≢ b = omega (arith, h 0 (omega arith)) in
      let h1 : a ≢ b + 1 = h 1 (omega arith) in
      simp get_or-set_other

  module _ (fits : b + 2 ≤ length ws) where
    pub word_same : get_or (stored ws b p) b 0 ≡ p.word
    unfolding stored
    word_same = get_or-set_other (set ws b p.word) (b + 1) b p.value 0 (omega arith) ∙ get_or-set_same ws b p.word 0 (omega arith)

    value_same : get_or (stored ws b p) (b + 1) 0 ≡ p.value
    unfolding stored
    value_same = get_or-set_same (set ws b p.word) (b + 1) p.value 0 (omega (arith, length-set ws b p.word))

    pub packet_same : packet_at (stored ws b p) b ≡ p
    packet_same = rw (word_same, value_same)

    pub letter_same : letter_at (stored ws b p) b ≡ letter_of p
    letter_same = rw packet_same

-- ---- a packet and its tag written

module _ (ws : List ℕ) (b : ℕ) (p : Packet) (t : ℕ) where
  pub length_marked : length (marked ws b p t) ≡ length ws
  unfolding marked
  length_marked = length-set (stored ws b p) (b + 2) t ∙ length_stored ws b p

  pub marked_other : (a : ℕ) → ((k : ℕ) → k < 3 → a ≢ b + k) → get_or (marked ws b p t) a 0 ≡ get_or ws a 0
  unfolding marked
  marked_other a h =
      get_or-set_other (stored ws b p) (b + 2) a t 0 (h 2 (omega arith)) ∙ word_other ws b p a (λ k g. h k (omega arith))

  module _ (fits : b + 3 ≤ length ws) where
    pub marked_packet : packet_at (marked ws b p t) b ≡ p
    unfolding marked
    marked_packet =
        packet_cong (set (stored ws b p) (b + 2) t) (stored ws b p) b (λ k g. get_or-set_other (stored ws b p) (b + 2) (b + k) t 0 (omega arith))
        ∙ packet_same ws b p (omega arith)

    pub marked_word : get_or (marked ws b p t) b 0 ≡ p.word
    unfolding marked
    marked_word = get_or-set_other (stored ws b p) (b + 2) b t 0 (omega arith) ∙ word_same ws b p (omega arith)

    pub marked_letter : letter_at (marked ws b p t) b ≡ letter_of p
    marked_letter = rw marked_packet

    pub mark_same : tag_at (marked ws b p t) b ≡ t
    unfolding marked
    mark_same = get_or-set_same (stored ws b p) (b + 2) t 0 (omega (arith, length_stored ws b p))
