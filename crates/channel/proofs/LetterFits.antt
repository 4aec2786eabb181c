-- Letters whose fields are within their limits, and packets that carry them.
use Prim.Native.Nat.{ℕ, ◌<◌, ◌≤◌, ◌^◌}
use mathlib.Core.Path.{◌≡◌, refl}
use mathlib.Core.Bool.{Bool, true, false, cond, not, ◌&&◌, ◌||◌}
use mathlib.Core.List.{List}
use native.Mathlib.Nat.{pow-le-pow_right}
use native.Mathlib.Decide.{ℕ_discrete}
use native.Mathlib.Omega.{arith}
use borrow.Author.Tests.{ltb-true, leb-true, lt-ltb, le-leb, ne_eqb}
use lib.Dec.{eqb, ltb, leb}
use lib.ListN.{get_or}
use Rattle.lists.specs.Tests.{and_fst, and_snd, and_intro}
use Rattle.lists.specs.Conjunctions.{and_four}
use Rattle.names.specs.declared.Body.{Body}
use Rattle.names.specs.declared.Body.TheVariants.{ReadDo, ReadReply, UpdateDo, UpdateReply}
use Rattle.names.specs.declared.Letter.{Letter}
use Rattle.names.specs.declared.Packet.{Packet}
use Rattle.names.specs.Update.{known_function}
use Rattle.names.specs.Letters.{kind_in, task_in, register_in, function_in, to_in, body_of, function_of, function_fits, known, letter_of, packet_of, Packs, packet_at, tag_at}
use Rattle.names.proofs.Blocks.{kind_some, kind_carried, letter_back}
use Rattle.channel.specs.Layout.{cards_of, tasks_of, registers_of}
use Rattle.channel.specs.Letters.{addressed, fits, limits_of, word_fits}
use Rattle.channel.specs.Sized.{packet_fits, block_fits, tagged_fits}
use Rattle.channel.proofs.SizedFacts.{cards_most, tasks_most, registers_most}

pub record Fits (ws : List ℕ) (l : Letter) : Type 0 where
  pub task : l.message.task.0 < tasks_of ws
  pub register : l.message.register.0 < registers_of ws
  pub body : known l.message.body ≡ true
  pub someone : 1 ≤ l.to
  pub present : l.to < 2 ^ cards_of ws

pub fits_is : (ws : List ℕ) (l : Letter) → fits ws l ≡ true → Fits ws l
unfolding fits addressed
fits_is ws l e =
    let u = and_four (ltb l.message.task.0 (tasks_of ws)) (ltb l.message.register.0 (registers_of ws)) (known l.message.body) (addressed ws l.to) e in
    record {
      task = ltb-true _ _ u.0;
      register = ltb-true _ _ u.1;
      body = u.2;
      someone = leb-true _ _ (and_fst (leb 1 l.to) (ltb l.to (2 ^ cards_of ws)) u.3);
      present = ltb-true _ _ (and_snd (leb 1 l.to) (ltb l.to (2 ^ cards_of ws)) u.3);
    }

pub fits_of : (ws : List ℕ) (l : Letter) → Fits ws l → fits ws l ≡ true
unfolding fits addressed
fits_of ws l f =
    and_intro (and_intro (and_intro (lt-ltb _ _ f.task) (lt-ltb _ _ f.register)) f.body)
    (and_intro (le-leb _ _ f.someone) (lt-ltb _ _ f.present))

-- a known function has room in a packet
function_small : (y : Body) → known y ≡ true → function_of y < 8
unfolding known function_of known_function
function_small ReadDo e = omega arith
function_small (ReadReply v) e = omega arith
function_small (UpdateDo f v) e = let m = leb-true f 5 (and_snd (leb 1 f) (leb f 5) e) in omega arith
function_small (UpdateReply v) e = omega arith

module _ (ws : List ℕ) (l : Letter) (f : fits ws l ≡ true) where
  -- its destinations are present cards
  pub fits_to : l.to < 2 ^ cards_of ws
  fits_to = (fits_is ws l f).present

  pub fits_small : l.to < 256
  fits_small =
      let a = fits_to in
      let b : 2 ^ cards_of ws ≤ 2 ^ 8 = pow-le-pow_right (omega arith) (cards_most ws) in
      omega arith

  -- it has room in a packet
  pub fits_packs : Packs l
  fits_packs =
      let x = fits_is ws l f in
      record {
        task = omega (arith, x.task, tasks_most ws);
        register = omega (arith, x.register, registers_most ws);
        function = function_small l.message.body x.body;
        to = omega (arith, fits_small);
      }

  -- and the packet that carries it fits
  pub carried_fits : packet_fits ws (packet_of l) ≡ true
  unfolding packet_fits
  carried_fits =
      let k = kind_some l.message.body in
      rw (kind_carried l, letter_back l fits_packs) (and_intro (and_intro (le-leb _ _ k.0) (le-leb _ _ k.1)) f)

-- a packet that fits carries a fitting letter
pub packet_letter : (cs : List ℕ) (p : Packet) → packet_fits cs p ≡ true → fits cs (letter_of p) ≡ true
unfolding packet_fits
packet_letter cs p e = and_snd (leb 1 (kind_in p.word) && leb (kind_in p.word) 4) (fits cs (letter_of p)) e

-- a tag within its limit
module _ (ws : List ℕ) (b : ℕ) (e : tagged_fits ws b ≡ true) where
  pub tagged_packet : packet_fits ws (packet_at ws b) ≡ true
  unfolding tagged_fits
  tagged_packet = and_fst (block_fits ws ws b) (leb (tag_at ws b) 65535) e

  pub tagged_small : tag_at ws b ≤ 65535
  unfolding tagged_fits
  tagged_small = leb-true _ _ (and_snd (block_fits ws ws b) (leb (tag_at ws b) 65535) e)

pub tagged_fits_lem : (ws : List ℕ) (b : ℕ) → packet_fits ws (packet_at ws b) ≡ true → tag_at ws b ≤ 65535 → tagged_fits ws b ≡ true
unfolding tagged_fits
tagged_fits_lem ws b e h = and_intro e (le-leb _ _ h)

-- ---- the tests on a packed word are those of its letter

-- of the four kinds only an update has a function
pub function_known : (k f v : ℕ) → known (body_of k f v) ≡ function_fits k f
unfolding function_fits body_of known
function_known k f v = go (ℕ_discrete k 2)
  where
    others : (a b : Bool) → known (cond a ReadDo (cond b (ReadReply v) (UpdateReply v))) ≡ true
    others true b = refl
    others false true = refl
    others false false = refl

    go : Dec (k ≡ 2) → known (cond (eqb k 1) ReadDo (cond (eqb k 2) (UpdateDo f v) (cond (eqb k 3) (ReadReply v) (UpdateReply v)))) ≡ (not (eqb k 2) || known_function f)
    go (yes e) = rw e
    go (no n) = rw (ne_eqb k 2 n) (others (eqb k 1) (eqb k 3))

pub word_fits_lem : (cs : List ℕ) (p : Packet) → word_fits (limits_of cs) p.word ≡ packet_fits cs p
unfolding word_fits limits_of packet_fits fits addressed letter_of
word_fits_lem cs p =
    rw (function_known (kind_in p.word) (function_in p.word) p.value)
    (regrouped (leb 1 (kind_in p.word) && leb (kind_in p.word) 4) (ltb (task_in p.word) (tasks_of cs) && ltb (register_in p.word) (registers_of cs))
    (function_fits (kind_in p.word) (function_in p.word)) (leb 1 (to_in p.word)) (ltb (to_in p.word) (2 ^ cards_of cs)))
  where
    regrouped : (a b c d e : Bool) → (a && b && c && d && e) ≡ (a && (b && c && (d && e)))
    regrouped false b c d e = refl
    regrouped true false c d e = refl
    regrouped true true false d e = refl
    regrouped true true true d e = refl

-- what the limits are, for who does not open them
pub limits_are : (cs : List ℕ) → limits_of cs ≡ record { cards = cards_of cs; sets = 2 ^ cards_of cs; tasks = tasks_of cs; registers = registers_of cs }
unfolding limits_of
limits_are cs = refl

-- and where it lies in a memory
pub word_fits_at : (cs ws : List ℕ) (b : ℕ) → word_fits (limits_of cs) (get_or ws b 0) ≡ block_fits cs ws b
word_fits_at cs ws b = word_fits_lem cs (packet_at ws b)
