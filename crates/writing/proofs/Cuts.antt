-- Decisions cut off one at a time from the entries and the lengths that are left.
use Rattle.std.proofs.Common.{◌≡◌, ℕ, ◌+◌, ◌<◌, ◌≤◌, List, [], ◌∷◌, ◌++◌, length, get_or, take, drop, set, sym, refl, ap, ◌∙◌, subst, zero-add, arith, length-append}
use lib.Seq.{paste}
use Rattle.std.specs.List.{flat_map, AllByRecursion}
use Rattle.std.proofs.lemmas.List.{append_assoc, drop_more, take-append-drop}
use Rattle.std.proofs.lemmas.List.Edits.{paste-paste, length-paste, paste_all}
use Rattle.std.proofs.ByRecursion.{All-append}
use Rattle.frames.specs.declared.Entry.{Entry}
use Rattle.frames.specs.Contents.{Whole, decision_bytes, parted}
use Rattle.writing.proofs.Pastes.{set_is_paste}

module _ (cs : List ℕ) (i : ℕ) (h : i < length cs) where
  module _ (es d others : List Entry) (front : d ≡ take (get_or cs i 0) es) (back : others ≡ drop (get_or cs i 0) es) where
    pub decision_cut : flat_map decision_bytes (parted (drop i cs) es) ≡ decision_bytes d ++ flat_map decision_bytes (parted (drop (i + 1) cs) others)
    decision_cut =
        ap (λ z. flat_map decision_bytes (parted z es)) (drop_more cs i 0 h)
        ∙ (λ j. decision_bytes (sym front j) ++ flat_map decision_bytes (parted (drop (i + 1) cs) (sym back j)))

    pub decision_first : (left : List ℕ) → flat_map decision_bytes (parted (drop i cs) es) ++ left ≡ decision_bytes d ++ (flat_map decision_bytes (parted (drop (i + 1) cs) others) ++ left)
    decision_first left = ap (λ z. z ++ left) decision_cut ∙ append_assoc (decision_bytes d) (flat_map decision_bytes (parted (drop (i + 1) cs) others)) left

    pub whole_cut : AllByRecursion Whole d → AllByRecursion Whole others → AllByRecursion Whole es
    whole_cut a b =
        subst (AllByRecursion Whole) ((λ j. front j ++ back j) ∙ take-append-drop (get_or cs i 0) es) (All-append Whole d others a b)

-- one more decision written after what is done
pub one-more : (d : List ℕ) (at : ℕ) (done : List ℕ) (k c : ℕ) (E : List ℕ) (m : ℕ) → k ≡ length done → m ≡ length E → at + k < length d →
    paste (set (paste d at done k) (at + k) c) (at + k + 1) E m ≡ paste d at (done ++ (c ∷ E)) (k + (1 + m))
one-more d at done k c E m hk hm h =
    let whole = length-paste d at done k (omega arith) (omega arith) in
    let one = set_is_paste (paste d at done k) (at + k) c (omega arith) ∙ paste-paste d at done (c ∷ []) k 1 hk refl (omega arith) in
    let n : at + k + 1 ≡ at + (k + 1) = omega arith in
    let len : k + 1 ≡ length (done ++ c ∷ []) = sym (length-append done (c ∷ []) ∙ ap (λ z. z + 1) (sym hk)) in
    let two = paste-paste d at (done ++ c ∷ []) E (k + 1) m len hm (omega arith) in
    let k1 : k + 1 + m ≡ k + (1 + m) = omega arith in
    (λ i. paste (one i) (n i) E m) ∙ two ∙ (λ i. paste d at (append_assoc done (c ∷ []) E i) (k1 i))

-- three parts one after another at the front
pub three_parts : (d head E D out₁ out₂ out₃ : List ℕ) (h e k middle : ℕ) → h ≡ length head → e ≡ length E → k ≡ length D → h + e + k ≤ length d →
    out₁ ≡ paste d 0 head h → out₂ ≡ paste out₁ h E e → middle ≡ h + e → out₃ ≡ paste out₂ middle D k → out₃ ≡ head ++ ((E ++ D) ++ drop (middle + k) d)
three_parts d head E D out₁ out₂ out₃ h e k middle hh he hk fits w₁ w₂ m w₃ =
    let two : out₂ ≡ paste d 0 (head ++ E) (h + e) = w₂ ∙ (λ i. paste (w₁ i) (sym (zero-add h) i) E e) ∙ paste-paste d 0 head E h e hh he (omega arith) in
    let len : h + e ≡ length (head ++ E) = sym (length-append head E ∙ (λ i. sym hh i + sym he i)) in
    let three : out₃ ≡ paste d 0 ((head ++ E) ++ D) (h + e + k) = w₃ ∙ (λ i. paste (two i) ((m ∙ sym (zero-add (h + e))) i) D k) ∙ paste-paste d 0 (head ++ E) D (h + e) k len hk (omega arith) in
    let all = length-append (head ++ E) D in
    let n : 0 + (h + e + k) ≡ middle + k = omega arith in
    three ∙ paste_all d 0 ((head ++ E) ++ D) (h + e + k) (omega arith) ∙ ap (λ z. ((head ++ E) ++ D) ++ drop z d) n
    ∙ ap (λ z. z ++ drop (middle + k) d) (append_assoc head E D) ∙ append_assoc head (E ++ D) (drop (middle + k) d)
