-- What each change of the registers' memory does to the state that the memory shows.
use Prim.Native.Nat.{ℕ, suc, ◌+◌, ◌%◌, ◌<◌, ◌≤◌}
use mathlib.Core.Path.{◌≡◌, sym, ap, ◌∙◌}
use mathlib.Core.Bool.{true, cond, ◌&&◌}
use mathlib.Core.List.{List, [], ◌∷◌, ◌++◌}
use native.Mathlib.Decide.{dec_lt, ℕ_discrete}
use native.Mathlib.Omega.{arith}
use borrow.Author.Tests.{eq-eqb, ne_eqb}
use lib.Dec.{eqb}
use lib.ListN.{length, get_or, set}
use lib.Seq.{get_or-set_same, get_or-set_other}
use Rattle.lists.specs.Tests.{and_false}
use Rattle.lists.specs.Queues.{push, pop}
use Rattle.names.specs.declared.Letter.{Letter}
use Rattle.names.specs.Letters.{Packs}
use Rattle.names.specs.Placement.{Placement}
use Rattle.automaton.specs.State.{ChannelState}
use Rattle.claims.specs.Found.{Found, set_status, set_copy, post}
use Rattle.claims.specs.Found as F
use Rattle.tables.specs.declared.Doing.{Doing}
use Rattle.tables.specs.Layout.{requests_word, task_word, register_word, copy_word, out_head_word, home_in, holders_in, primary_in, copy_of}
use Rattle.tables.specs.Doings.{DoingPacks, doing_at, doing_stored}
use Rattle.tables.specs.Outbox.{out_count_of, posted, unposted}
use Rattle.tables.specs.Shows.{status_of, plain, outbox_of, RegistersShow}
use Rattle.tables.proofs.Words.{doing_cong, doing_word, doing_home, doing_same, doing_other, outbox_cong, posted_word, post_appends, unposted_word, unpost_drops}

module _ (ws : List ℕ) (cards tasks registers : ℕ) (c8 : cards ≤ 8) (t16 : tasks ≤ 16) (r32 : registers ≤ 32)
    (P : Placement) (s : Found) (long : length ws ≡ 593) (v : RegistersShow ws cards tasks registers P s) (w : ChannelState F.Letter) where
  -- the requests taken
  pub requests_show : (n : ℕ)
      → RegistersShow (set ws requests_word n) cards tasks registers P (record { requests = n; status = s.status; table = s.table; out = s.out; channel = w })
  requests_show n = record {
    home= = λ c h. v.home= c h ∙ ap home_in (sym (get_or-set_other ws 0 (task_word c) n 0 (omega arith)));
    holders= = λ x h. v.holders= x h ∙ ap holders_in (sym (get_or-set_other ws 0 (register_word x) n 0 (omega arith)));
    primary= = λ x h. v.primary= x h ∙ ap primary_in (sym (get_or-set_other ws 0 (register_word x) n 0 (omega arith)));
    requests= = sym (get_or-set_same ws 0 n 0 (omega arith));
    status= = λ c h. v.status= c h ∙ ap status_of (sym (doing_cong (set ws 0 n) ws c (λ k p. get_or-set_other ws 0 (task_word c + k) n 0 (omega arith))));
    table= = λ i x h g. v.table= i x h g ∙ sym (get_or-set_other ws 0 _ n 0 (omega arith));
    out= = λ i h. v.out= i h ∙ sym (outbox_cong (set ws 0 n) ws i (λ a p q. get_or-set_other ws 0 a n 0 (omega arith)));
  }

  -- what task t is doing
  pub doing_show : (t : ℕ) → t < tasks → (d : Doing) → DoingPacks d
      → RegistersShow (doing_stored ws t d) cards tasks registers P
      (record { requests = s.requests; status = set_status t (status_of d) s.status; table = s.table; out = s.out; channel = w })
  doing_show t b d packs = record {
    home= = λ c h. v.home= c h ∙ sym (doing_home ws t d long c);
    holders= = λ x h. v.holders= x h ∙ ap holders_in (sym (doing_word ws t d (register_word x) (λ k p. omega arith)));
    primary= = λ x h. v.primary= x h ∙ ap primary_in (sym (doing_word ws t d (register_word x) (λ k p. omega arith)));
    requests= = v.requests= ∙ sym (doing_word ws t d 0 (λ k p. omega arith));
    status= = λ c h. go c h (ℕ_discrete t c);
    table= = λ i x h g. v.table= i x h g ∙ sym (doing_word ws t d (copy_word i x) (λ k p. omega arith));
    out= = λ i h. v.out= i h ∙ sym (outbox_cong (doing_stored ws t d) ws i (λ a p q. doing_word ws t d a (λ k m. omega arith)));
  }
    where
      go : (c : ℕ) → c < tasks → Dec (t ≡ c) → cond (eqb t c) (status_of d) (s.status c) ≡ status_of (doing_at (doing_stored ws t d) c)
      go c h (yes e) = rw (eq-eqb t c e, ← e, doing_same ws t d long packs)
      go c h (no n) = rw (ne_eqb t c n, doing_other ws t d c (omega arith)) (v.status= c h)

  -- card i's copy of register x
  pub copy_show : (i x : ℕ) → i < cards → x < registers → (n : ℕ)
      → RegistersShow (set ws (copy_word i x) n) cards tasks registers P
      (record { requests = s.requests; status = s.status; table = set_copy i x n s.table; out = s.out; channel = w })
  copy_show i x a b n = record {
    home= = λ c h. v.home= c h ∙ ap home_in (sym (get_or-set_other ws (copy_word i x) (task_word c) n 0 (omega arith)));
    holders= = λ y h. v.holders= y h ∙ ap holders_in (sym (get_or-set_other ws (copy_word i x) (register_word y) n 0 (omega arith)));
    primary= = λ y h. v.primary= y h ∙ ap primary_in (sym (get_or-set_other ws (copy_word i x) (register_word y) n 0 (omega arith)));
    requests= = v.requests= ∙ sym (get_or-set_other ws (copy_word i x) 0 n 0 (omega arith));
    status= = λ c h. v.status= c h ∙ ap status_of (sym (doing_cong (set ws (copy_word i x) n) ws c (λ k p. get_or-set_other ws (copy_word i x) (task_word c + k) n 0 (omega arith))));
    table= = λ j y h g. go j y h g (ℕ_discrete j i) (ℕ_discrete x y);
    out= = λ j h. v.out= j h ∙ sym (outbox_cong (set ws (copy_word i x) n) ws j (λ q m r. get_or-set_other ws (copy_word i x) q n 0 (omega arith)));
  }
    where
      go : (j y : ℕ) → j < cards → y < registers → Dec (j ≡ i) → Dec (x ≡ y) → cond (eqb j i && eqb x y) n (s.table j y) ≡ copy_of (set ws (copy_word i x) n) j y
      go j y h g (yes e) (yes f) = rw (eq-eqb j i e, eq-eqb x y f, e, ← f) (sym (get_or-set_same ws (copy_word i x) n 0 (omega arith)))
      go j y h g (yes e) (no f) = rw (ne_eqb x y f, and_false (eqb j i)) (v.table= j y h g ∙ sym (get_or-set_other ws (copy_word i x) (copy_word j y) n 0 (omega arith)))
      go j y h g (no e) f = rw (ne_eqb j i e) (v.table= j y h g ∙ sym (get_or-set_other ws (copy_word i x) (copy_word j y) n 0 (omega arith)))

  -- one letter more in card i's outbox
  pub post_show : (i : ℕ) → i < cards → (l : Letter) → Packs l → out_count_of ws i < 16
      → RegistersShow (posted ws i l) cards tasks registers P
      (record { requests = s.requests; status = s.status; table = s.table; out = post i (plain l) s.out; channel = w })
  post_show i a l packs room = record {
    home= = λ c h. v.home= c h ∙ ap home_in (sym (left (task_word c) (omega arith)));
    holders= = λ y h. v.holders= y h ∙ ap holders_in (sym (left (register_word y) (omega arith)));
    primary= = λ y h. v.primary= y h ∙ ap primary_in (sym (left (register_word y) (omega arith)));
    requests= = v.requests= ∙ sym (left 0 (omega arith));
    status= = λ c h. v.status= c h ∙ ap status_of (sym (doing_cong (posted ws i l) ws c (λ k p. left (task_word c + k) (omega arith))));
    table= = λ j y h g. v.table= j y h g ∙ sym (left _ (omega arith));
    out= = λ j h. go j h (ℕ_discrete j i);
  }
    where
      left : (q : ℕ) → q < 321 → get_or (posted ws i l) q 0 ≡ get_or ws q 0
      left q h = posted_word ws i l long room q (omega arith) (λ k g. omega arith)

      go : (j : ℕ) → j < cards → Dec (j ≡ i) → push (eqb j i) (plain l) (s.out j) ≡ outbox_of (posted ws i l) j
      go j h (yes e) = rw (eq-eqb j i e, e) (ap (λ o. o ++ (plain l ∷ [])) (v.out= i a) ∙ sym (post_appends ws i l long room packs))
      go j h (no n) =
          rw (ne_eqb j i n)
          (v.out= j h ∙ sym (outbox_cong (posted ws i l) ws j (λ q m r. apart q m r (dec_lt j i))))
        where
          apart : (q : ℕ) → out_head_word j ≤ q → q < out_head_word j + 34 → Dec (j < i) → get_or (posted ws i l) q 0 ≡ get_or ws q 0
          apart q m r (yes z) =
              let ei : i % 8 ≡ i = omega arith in
              let ej : j % 8 ≡ j = omega arith in
              posted_word ws i l long room q (omega arith) (λ k g. omega arith)
          apart q m r (no z) =
              let ei : i % 8 ≡ i = omega arith in
              let ej : j % 8 ≡ j = omega arith in
              posted_word ws i l long room q (omega arith) (λ k g. omega arith)

  -- the head of card i's outbox gone
  pub unpost_show : (i : ℕ) → i < cards → (n : ℕ) → out_count_of ws i ≡ suc n
      → RegistersShow (unposted ws i) cards tasks registers P
      (record { requests = s.requests; status = s.status; table = s.table; out = λ j. pop (eqb j i) (s.out j); channel = w })
  unpost_show i a n e = record {
    home= = λ c h. v.home= c h ∙ ap home_in (sym (left (task_word c) (omega arith)));
    holders= = λ y h. v.holders= y h ∙ ap holders_in (sym (left (register_word y) (omega arith)));
    primary= = λ y h. v.primary= y h ∙ ap primary_in (sym (left (register_word y) (omega arith)));
    requests= = v.requests= ∙ sym (left 0 (omega arith));
    status= = λ c h. v.status= c h ∙ ap status_of (sym (doing_cong (unposted ws i) ws c (λ k p. left (task_word c + k) (omega arith))));
    table= = λ j y h g. v.table= j y h g ∙ sym (left _ (omega arith));
    out= = λ j h. go j h (ℕ_discrete j i);
  }
    where
      left : (q : ℕ) → q < 321 → get_or (unposted ws i) q 0 ≡ get_or ws q 0
      left q h = unposted_word ws i long n e q (omega arith) (omega arith)

      go : (j : ℕ) → j < cards → Dec (j ≡ i) → pop (eqb j i) (s.out j) ≡ outbox_of (unposted ws i) j
      go j h (yes f) = rw (eq-eqb j i f, f) (ap (pop true) (v.out= i a ∙ unpost_drops ws i long n e))
      go j h (no f) =
          rw (ne_eqb j i f)
          (v.out= j h ∙ sym (outbox_cong (unposted ws i) ws j (λ q m r. unposted_word ws i long n e q (omega arith) (omega arith))))
