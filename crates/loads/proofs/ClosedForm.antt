-- Draws in closed form: the state after m turns, without those between.
use Prim.Native.Nat.{ℕ, zero, suc, ◌+◌, ◌*◌, ◌%◌, ◌/◌, ◌^◌, ◌<◌}
use mathlib.Core.Path.{◌≡◌, sym, ap, ◌∙◌}
use native.Mathlib.Omega.{arith}
use native.Mathlib.Nat.{mul-add, mul_assoc, mul_comm, pow-succ', div-add-mod, add-mul-mod_self_left}
use Rattle.lists.specs.Loops.{turns, turns_zero, turns_suc, total, total_zero, total_suc}
use Rattle.loads.specs.Load.{next, draw}
use Rattle.loads.specs.LoadMeaning.{draw_at}

-- the state after m turns
abbrev pub gone : ℕ → ℕ → ℕ
gone seed m = turns (λ _ s. next s) m seed

abbrev pow : ℕ → ℕ
pow i = 1664525 ^ i

abbrev sum : ℕ → ℕ
sum m = total pow m

-- 1 + a + .. + a^m, by its last and by its first
sum_next : (m : ℕ) → sum (suc m) ≡ 1664525 * sum m + 1
sum_next zero = total_suc pow 0 ∙ (let e = total_zero pow in omega arith)
sum_next (suc m) =
    let e = sum_next m in
    let f = total_suc pow m in
    let g = total_suc pow (suc m) in
    let p = pow-succ' 1664525 m in
    omega arith

-- a remainder inside, of a multiple and a sum
mod_inside : (a c x m : ℕ) → (a * (x % m) + c) % m ≡ (a * x + c) % m
mod_inside a c x m =
    let d : ℕ = a * (m * (x / m)) in
    let swap : d ≡ m * (a * (x / m)) = sym (mul_assoc a m (x / m)) ∙ ap (λ k. k * (x / m)) (mul_comm a m) ∙ mul_assoc m a (x / m) in
    let split : a * x ≡ d + a * (x % m) = ap (λ k. a * k) (sym (div-add-mod x m)) ∙ mul-add a (m * (x / m)) (x % m) in
    sym (add-mul-mod_self_left (a * (x % m) + c) m (a * (x / m))) ∙ ap (λ k. k % m) (let e : a * (x % m) + c + m * (a * (x / m)) ≡ a * x + c = omega arith in e)

closed : (seed m : ℕ) → gone seed (suc m) ≡ (pow (suc m) * seed + 1013904223 * sum (suc m)) % 4294967296
unfolding next
closed seed zero =
    turns_suc (λ _ s. next s) 0 seed
    ∙ ap next (turns_zero (λ _ s. next s) seed)
    ∙ ap (λ t. (1664525 * seed + 1013904223 * t) % 4294967296) (sym (sum_next 0 ∙ ap (λ t. 1664525 * t + 1) (total_zero pow)))
closed seed (suc m) =
    let e = closed seed m in
    let s = sum_next (suc m) in
    let q = ap (λ a. a * seed) (pow-succ' 1664525 (suc m)) ∙ mul_assoc 1664525 (pow (suc m)) seed in
    let x : ℕ = pow (suc m) * seed + 1013904223 * sum (suc m) in
    let same : 1664525 * x + 1013904223 ≡ pow (suc (suc m)) * seed + 1013904223 * sum (suc (suc m)) = omega arith in
    turns_suc (λ _ s. next s) (suc m) seed ∙ ap next e ∙ mod_inside 1664525 1013904223 x 4294967296 ∙ ap (λ k. k % 4294967296) same

pub draws_closed : (seed m : ℕ) → draw (gone seed m) ≡ draw_at seed m
unfolding draw
draws_closed seed m = ap (λ s. s / 65536) (sym (turns_suc (λ _ s. next s) m seed) ∙ closed seed m)

pub draw_small : (s : ℕ) → draw s < 65536
unfolding draw next
draw_small s = omega arith
