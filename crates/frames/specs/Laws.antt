-- What writing and reading are to one another.
use Rattle.std.specs.Prelude.{◌≡◌, ℕ, ◌+◌, ◌*◌, ◌<◌, ◌≤◌, ◌⊎◌, List, ◌++◌, length, Ok, Err, Result}
use Rattle.std.specs.List.{AllByRecursion}
use Rattle.frames.specs.declared.Cause.TheVariants as cause
use Rattle.frames.specs.declared.FrameFault.{FrameFault}
use Rattle.frames.specs.declared.plan.Plan.{Plan}
use Rattle.frames.specs.Contents.{Content, Lawful, bytes_of}
use Rattle.frames.specs.Reading.{read_as, fault_at}

abbrev pub WrittenReadsBack : Type 0
WrittenReadsBack = (p : Plan) (c : Content) → Lawful p c → read_as p (bytes_of p c) ≡ Ok c

abbrev pub ReadWritesBack : Type 0
ReadWritesBack = (p : Plan) (bs : List ℕ) (c : Content) → AllByRecursion (λ b. b < 256) bs → read_as p bs ≡ Ok c → (bytes_of p c ≡ bs) × Lawful p c

abbrev pub OneWriting : Type 0
OneWriting =
    (p : Plan) (xs ys : List ℕ) (c : Content) → AllByRecursion (λ b. b < 256) xs → AllByRecursion (λ b. b < 256) ys → read_as p xs ≡ Ok c → read_as p ys ≡ Ok c → xs ≡ ys

-- what is written are bytes, and no more than the plan's orders need
abbrev pub WrittenFits : Type 0
WrittenFits = (p : Plan) (c : Content) → Lawful p c → AllByRecursion (λ b. b < 256) (bytes_of p c) × (length (bytes_of p c) ≤ 10 + 150 * p.n)

-- what a front of `n` bytes reads as, beside what the whole does: a frame, and then its first surplus byte is at fault in the whole;
-- or a fault, which is that it ends there, or else the whole's fault too
abbrev pub FrontOf : ℕ → Result Content FrameFault → Result Content FrameFault → Type 0
FrontOf n (Ok c) whole = whole ≡ fault_at n cause.Length
FrontOf n (Err e) whole = (e ≡ record { place = n; cause = cause.Length }) ⊎ (whole ≡ Err e)

-- reading goes from the front
abbrev pub FrontFirst : Type 0
FrontFirst = (p : Plan) (bs more : List ℕ) → 0 < length more → FrontOf (length bs) (read_as p bs) (read_as p (bs ++ more))
