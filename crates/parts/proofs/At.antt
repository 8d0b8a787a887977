-- The entries of a list of entries, out of their bytes.
use Rattle.std.proofs.Common.{◌≡◌, ℕ, zero, suc, ◌+◌, ◌*◌, ◌/◌, ◌<◌, ◌≤◌, List, [], ◌∷◌, ◌++◌, length, get_or, take, drop, Some, sym, refl, ap, ◌∙◌, arith, length-drop}
use Rattle.std.specs.Simd.{first_chunks}
use Rattle.std.specs.List.{flat_map, AllByRecursion, slice_get}
use Rattle.std.proofs.lemmas.List.{drop-drop, drop_at, take_at, take-take, append-nil}
use Rattle.std.proofs.lemmas.Option.{slice_get_past}
use Rattle.frames.specs.declared.Entry.{Entry}
use Rattle.frames.specs.Contents.{Whole, entry_bytes}
use Rattle.frames.proofs.Written.{joined_length, entries-in}
use Rattle.frames.specs.Reading.{entry_in, entries_in}
use Rattle.parts.specs.Going.{entries_of}

pub count_of : (bs : List ℕ) (es : List Entry) → AllByRecursion Whole es → bs ≡ flat_map entry_bytes es → length bs / 9 ≡ length es
count_of bs es w q = let n = ap length q ∙ joined_length es w in omega arith

entry_of : (es : List Entry) (i : ℕ) → AllByRecursion Whole es → i < length es → Some (entry_in (drop (9 * i) (flat_map entry_bytes es))) ≡ slice_get es i
entry_of [] i w h = absurd (omega arith)
entry_of (e ∷ es) zero w h = let body = take_at e.body (flat_map entry_bytes es) 8 w.0.eight in λ k. Some (record { id = e.id; body = body k })
entry_of (e ∷ es) (suc i) w h =
    let n : 9 * suc i ≡ 9 + 9 * i = omega arith in
    let d : drop (9 * suc i) (entry_bytes e ++ flat_map entry_bytes es) ≡ drop (9 * i) (flat_map entry_bytes es) =
    ap (λ z. drop z (entry_bytes e ++ flat_map entry_bytes es)) n ∙ sym (drop-drop (9 * i) 9 (entry_bytes e ++ flat_map entry_bytes es))
    ∙ ap (drop (9 * i)) (drop_at (entry_bytes e) (flat_map entry_bytes es) 9 (ap suc w.0.eight)) in
    ap (λ z. Some (entry_in z)) d ∙ entry_of es i w.1 (omega arith)

pub entry_past : (bs : List ℕ) (es : List Entry) (i : ℕ) → length bs / 9 ≤ i → AllByRecursion Whole es → bs ≡ flat_map entry_bytes es → slice_get es i ≡ slice_get {X = Entry} [] i
entry_past bs es i h w q = let n = count_of bs es w q in slice_get_past es i (omega arith)

pub entry_is : (bs : List ℕ) (es : List Entry) (i : ℕ) → i < length bs / 9 → AllByRecursion Whole es → bs ≡ flat_map entry_bytes es → Some (entry_in (drop (9 * i) bs)) ≡ slice_get es i
entry_is bs es i h w q = let n = count_of bs es w q in ap (λ z. Some (entry_in (drop (9 * i) z))) q ∙ entry_of es i w (omega arith)

-- all of them
pub entries_held : (bs : List ℕ) (es : List Entry) → AllByRecursion Whole es → bs ≡ flat_map entry_bytes es → entries_of bs ≡ es
entries_held bs es w q =
    ap (λ z. entries_in z bs) (count_of bs es w q) ∙ ap (entries_in (length es)) (q ∙ sym (append-nil (flat_map entry_bytes es))) ∙ entries-in es [] w

-- nine bytes are read
entry-in-front : (bs : List ℕ) → entry_in (take 9 bs) ≡ entry_in bs
entry-in-front [] = refl
entry-in-front (b ∷ bs) = ap (λ z. record { id = b; body = z }) (take-take 8 8 bs (omega arith))

chunk_at : (k i : ℕ) (bs d : List ℕ) → i < k → get_or (first_chunks 9 k bs) i d ≡ take 9 (drop (9 * i) bs)
chunk_at zero i bs d h = absurd (omega arith)
chunk_at (suc k) zero bs d h = refl
chunk_at (suc k) (suc i) bs d h =
    let n : 9 + 9 * i ≡ 9 * suc i = omega arith in
    chunk_at k i (drop 9 bs) d (omega arith) ∙ ap (take 9) (drop-drop (9 * i) 9 bs ∙ ap (λ z. drop z bs) n)

pub entry-in-chunk : (bs : List ℕ) (i : ℕ) (chunks : List (List ℕ)) (x : List ℕ) → chunks ≡ first_chunks 9 (length bs / 9) bs → i < length bs / 9 → x ≡ get_or chunks i x →
    entry_in x ≡ entry_in (drop (9 * i) bs)
entry-in-chunk bs i chunks x q h e = ap entry_in (e ∙ ap (λ z. get_or z i x) q ∙ chunk_at (length bs / 9) i bs x h) ∙ entry-in-front (drop (9 * i) bs)

-- the first of them and the others
pub entries_more : (bs : List ℕ) → 9 ≤ length bs → entries_of bs ≡ entry_in (take 9 bs) ∷ entries_of (drop 9 bs)
entries_more bs h =
    let n : length bs / 9 ≡ suc (length (drop 9 bs) / 9) = omega (arith, length-drop 9 bs) in
    ap (λ z. entries_in z bs) n ∙ ap (λ z. z ∷ entries_of (drop 9 bs)) (sym (entry-in-front bs))
