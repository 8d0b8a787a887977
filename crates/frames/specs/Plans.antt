-- Which numbers are a plan, and where dummies go.
use Rattle.std.specs.Prelude.{◌≡◌, ℕ, ◌+◌, ◌-◌, ◌*◌, ◌≤◌, cond, ◌&&◌, Ok, Err, Result, nat_le, nat_lt}
use Rattle.frames.specs.declared.PlanFault.{PlanFault}
use Rattle.frames.specs.declared.PlanFault.TheVariants as fault
use Rattle.frames.specs.declared.plan.Plan.{Plan}

-- n is 3 to 7, f is 1 or 2, and n is at least f(f+1)+1
pub record PlanRules (n f : ℕ) : Type 0 where
  pub least : 3 ≤ n
  pub most : n ≤ 7
  pub some : 1 ≤ f
  pub few : f ≤ 2
  pub enough : f * (f + 1) + 1 ≤ n

-- the plan of these numbers, or the refusal where they are none
abbrev pub Makes : ℕ → ℕ → Result Plan PlanFault → Type 0
Makes n f (Ok p) = PlanRules n f × (p.n ≡ n) × (p.f ≡ f)
Makes n f (Err fault.Plan) = PlanRules n f → ⊥

-- at the start a dummy goes from each box j of n-f or more to the boxes 1 to j+f+1-n, and from the others to none
abbrev pub dummy_reach : Plan → ℕ → ℕ
dummy_reach p j = cond (nat_le p.n (j + p.f) && nat_lt j p.n) (j + p.f + 1 - p.n) 0
