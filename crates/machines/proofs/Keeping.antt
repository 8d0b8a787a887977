-- A fact that every body keeps, of the list of them.
use Rattle.std.proofs.Common.{ℕ, List, [], ◌∷◌}
use Rattle.machines.specs.Telling.{told_all}

pub all_kept : {R : Type 0} (P : R → Type 0) (told : R → List ℕ → R) → ((r : R) (body : List ℕ) → P r → P (told r body)) → (r : R) (bodies : List (List ℕ)) → P r → P (told_all told r bodies)
all_kept P told keeps r [] h = h
all_kept P told keeps r (b ∷ bs) h = all_kept P told keeps (told r b) bs (keeps r b h)
