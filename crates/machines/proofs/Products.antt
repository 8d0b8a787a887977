-- A rate times a number of ticks, within their limits.
use Rattle.std.proofs.Common.{◌≡◌, ℕ, zero, suc, ◌*◌, ◌≤◌, ℤ, pos, negsuc, ◌*ℤ◌, neg_ℤ, nat_abs, sym, refl, subst, mul-le-mul, arith, w32, SFits}
use Rattle.std.proofs.lemmas.Int.{ints}

nat_abs_neg : (n : ℕ) → nat_abs (neg_ℤ (pos n)) ≡ n
nat_abs_neg zero = refl
nat_abs_neg (suc n) = refl

pub product_within : (z : ℤ) (n : ℕ) → nat_abs z ≤ 100 → n ≤ 10000 → nat_abs (z *ℤ pos n) ≤ 1000000
product_within (pos m) n h k = mul-le-mul h k
product_within (negsuc m) n h k = subst (λ (x : ℕ). x ≤ 1000000) (sym (nat_abs_neg (suc m * n))) (mul-le-mul h k)

within_fits : (z : ℤ) → nat_abs z ≤ 1000000 → SFits w32 z
within_fits z h = omega (arith, ints)

pub product_fits : (z : ℤ) (n : ℕ) → nat_abs z ≤ 100 → n ≤ 10000 → SFits w32 (z *ℤ pos n)
product_fits z n h k = within_fits (z *ℤ pos n) (product_within z n h k)
