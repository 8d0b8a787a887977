-- What holds of every dome, whatever its field holds and whatever it is told.
use Rattle.std.specs.Prelude.{◌≡◌, ℕ, ◌<◌, true, ◌⊎◌, List, [], ◌∷◌, ℤ, pos, ◌+ℤ◌, ◌-ℤ◌}
use Rattle.machines.specs.declared.domes.Dome.{Dome}
use Rattle.machines.specs.Orders.{order_in, signed24}
use Rattle.machines.specs.DomeRules.{dome_reading, dome_told, dome_done}
use Rattle.machines.specs.Telling.{told_all}

-- no list of bodies leads out of the circle
abbrev pub DomeStaysInRange : Type 0
DomeStaysInRange = (d : Dome) (bodies : List (List ℕ)) → told_all dome_told (dome_reading d) bodies < 36_000

-- z, give or take a circle
abbrev pub RoundTheCircle : ℤ → ℤ → Type 0
RoundTheCircle z a = (a ≡ z) ⊎ ((a ≡ z -ℤ pos 36_000) ⊎ (a ≡ z +ℤ pos 36_000))

-- a turn that is done takes the dome on by just so much round the circle
abbrev pub DomeTurnsAsTold : Type 0
DomeTurnsAsTold =
    (r : ℕ) (body : List ℕ) → r < 36_000 → dome_done r body ≡ true
    → RoundTheCircle (pos r +ℤ signed24 (order_in body).first) (pos (dome_told r body))

-- a turn by -1
abbrev pub one_back : List ℕ
one_back = 0x11 ∷ 0 ∷ 0xff ∷ 0xff ∷ 0xff ∷ 0 ∷ 0 ∷ 0 ∷ []

-- from 0 it stands at 35,999
abbrev pub BackFromZero : Type 0
BackFromZero = (dome_done 0 one_back ≡ true) × (dome_told 0 one_back ≡ 35_999)
