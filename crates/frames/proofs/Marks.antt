-- Flags that hold no id.
use Rattle.std.specs.Prelude.{◌≡◌, ℕ, zero, suc, false, [], refl, replicate, slice_index_or}
use Rattle.frames.specs.Contents.{Marks}

pub none_marked : (n : ℕ) → Marks (replicate n false) []
none_marked n i h = at n i
  where
    at : (n i : ℕ) → slice_index_or (replicate n false) i false ≡ false
    at zero i = refl
    at (suc n) zero = refl
    at (suc n) (suc i) = at n i
