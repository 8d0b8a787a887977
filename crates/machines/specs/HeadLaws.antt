-- What holds of every head, whatever its fields hold and whatever it is told.
use Rattle.std.specs.Prelude.{◌≡◌, ℕ, ◌≤◌, Bool, true, false, ◌⊎◌, List, [], ◌∷◌, ℤ, pos, ◌+ℤ◌, ◌*ℤ◌, ◌≢◌, unsigned_abs}
use Rattle.machines.specs.declared.heads.Head.{Head}
use Rattle.machines.specs.Orders.{order_in}
use Rattle.machines.specs.HeadRules.{right_ascension, head_reading, head_told, head_done}
use Rattle.machines.specs.Telling.{told_all}

-- the ranges of what a head reads
pub record HeadInRange (r : Head) : Type 0 where
  pub mode_known : r.mode ≤ 2
  pub rate_within : unsigned_abs r.rate ≤ 100
  pub mark_within : unsigned_abs r.mark ≤ 4_000_000
  pub ascension_within : unsigned_abs (right_ascension r) ≤ 4_000_000
  pub declination_within : unsigned_abs r.declination ≤ 2_000_000
  pub parked_with_zeros : r.mode ≡ 0 → (r.rate ≡ pos 0) × (r.mark ≡ pos 0) × (r.counter ≡ pos 0) × (r.declination ≡ pos 0)

-- no list of bodies leads out of the ranges
abbrev pub HeadStaysInRange : Type 0
HeadStaysInRange = (h : Head) (bodies : List (List ℕ)) → HeadInRange (told_all head_told (head_reading h) bodies)

-- a run that is done moves the right ascension by the rate at each tick; track and stop do not move it; slew and park alone change the declination
pub record HeadMoves (r : Head) (body : List ℕ) : Type 0 where
  pub run_moves : (order_in body).kind ≡ 0x03 → head_done r body ≡ true → right_ascension (head_told r body) ≡ right_ascension r +ℤ r.rate *ℤ pos (order_in body).first
  pub stays_put : ((order_in body).kind ≡ 0x02) ⊎ ((order_in body).kind ≡ 0x04) → right_ascension (head_told r body) ≡ right_ascension r
  pub keeps_declination : ((order_in body).kind ≢ 0x01) → ((order_in body).kind ≢ 0x05) → (head_told r body).declination ≡ r.declination

abbrev pub HeadMovesAsTold : Type 0
HeadMovesAsTold = (r : Head) (body : List ℕ) → HeadMoves r body

-- a run of 10,000 ticks
abbrev pub long_run : List ℕ
long_run = 0x03 ∷ 0 ∷ 0 ∷ 0x27 ∷ 0x10 ∷ 0 ∷ 0 ∷ 0 ∷ []

-- tracking at rate 100, such a run reaches 4,000,000 from 3,000,000, and is not done from 3,000,001
abbrev pub RunLimit : Type 0
RunLimit =
    (r : Head) → r.mode ≡ 2 → r.rate ≡ pos 100
    → (right_ascension r ≡ pos 3_000_000 → (head_done r long_run ≡ true) × (right_ascension (head_told r long_run) ≡ pos 4_000_000))
    × (right_ascension r ≡ pos 3_000_001 → head_done r long_run ≡ false)

-- a head that tracks at rate 100
abbrev pub tracking_at : ℤ → ℤ → Head
tracking_at mark counter = record { mode = 2; rate = pos 100; mark = mark; counter = counter; declination = pos 0 }

-- the same of two heads, as they read after the run, each with whether it was done
pub record RunExample (r : Head × Bool × Head × Bool) : Type 0 where
  pub reached : r.0 ≡ tracking_at (pos 3_000_000) (pos 1_000_000)
  pub ascension : right_ascension r.0 ≡ pos 4_000_000
  pub done : r.1 ≡ true
  pub stayed : r.2 ≡ tracking_at (pos 3_000_001) (pos 0)
  pub not_done : r.3 ≡ false
