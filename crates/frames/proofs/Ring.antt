-- Steps round a ring of n boxes.
use Rattle.std.proofs.Common.{◌≡◌, ℕ, ◌+◌, ◌-◌, ◌*◌, ◌%◌, ◌≤◌, ap, ◌∙◌, mul-add, arith}
use mathlib.Core.Path.{to_path_p}
use native.Mathlib.Nat.{mod-add-mod, add-mul-mod_self_right}
use native.Mathlib.Bridge.{le_prop}
use Rattle.frames.specs.declared.plan.Plan.{Plan}

-- n - 1 steps forward and one more are a whole round
whole : (i k n : ℕ) → 1 ≤ n → i + k * (n - 1) + k ≡ i + k * n
whole i k n h = let e = mul-add k (n - 1) 1 in let m : n - 1 + 1 ≡ n = omega arith in let z = ap (λ x. k * x) m in omega arith

pub back_and_forth : (i k n : ℕ) → 1 ≤ n → ((i + k * (n - 1)) % n + k) % n ≡ i % n
back_and_forth i k n h = mod-add-mod (i + k * (n - 1)) n k ∙ ap (λ x. x % n) (whole i k n h) ∙ add-mul-mod_self_right i k n

-- two plans of the same numbers are the same: their rules have one proof at most
pub same_plan : (p q : Plan) → p.n ≡ q.n → p.f ≡ q.f → p ≡ q
same_plan p q en ef = λ i. record {
  n = en i;
  f = ef i;
  least = to_path_p (λ k. 3 ≤ en k) {a = p.least} {b = q.least} (le_prop _ q.least) i;
  most = to_path_p (λ k. en k ≤ 7) {a = p.most} {b = q.most} (le_prop _ q.most) i;
  some = to_path_p (λ k. 1 ≤ ef k) {a = p.some} {b = q.some} (le_prop _ q.some) i;
  few = to_path_p (λ k. ef k ≤ 2) {a = p.few} {b = q.few} (le_prop _ q.few) i;
  enough = to_path_p (λ k. ef k * (ef k + 1) + 1 ≤ en k) {a = p.enough} {b = q.enough} (le_prop _ q.enough) i;
}
