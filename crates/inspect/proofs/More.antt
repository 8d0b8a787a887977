-- One more byte, entry or decision told.
use Rattle.std.proofs.Common.{◌≡◌, ℕ, ◌+◌, ◌-◌, ◌^◌, ◌<◌, true, false, List, [], ◌∷◌, ◌++◌, length, get_or, take, sym, ap, ◌∙◌, append_assoc}
use Rattle.std.specs.Fmt.{digits, padded_integral, format_spec}
use Rattle.std.proofs.lemmas.Fmt.{hex_byte}
use Rattle.std.proofs.lemmas.List.{take_more, flat_map_more}
use Rattle.frames.specs.declared.Entry.{Entry}
use Rattle.lines.specs.Digits.{two_digits, line_of}
use Rattle.inspect.specs.Telling.{entry_line, entry_lines, numbered, decision_lines}

-- a byte in base 16, with a 0 in front of a digit that is alone
abbrev pub in_hex : ℕ → List ℕ
in_hex b = padded_integral (format_spec 32 0 4 2 (2 ^ 64 - 1)) false [] (digits 16 true b)

pub digits_more : (bs : List ℕ) (i : ℕ) → i < length bs → get_or bs i 0 < 256 → line_of (take i bs) ++ in_hex (get_or bs i 0) ≡ line_of (take (i + 1) bs)
digits_more bs i h small =
    let b = get_or bs i 0 in
    ap (λ z. line_of (take i bs) ++ z) (hex_byte true b small) ∙ flat_map_more two_digits [] (take i bs) b ∙ ap line_of (sym (take_more bs i 0 h))

pub entry_told : (prefix done all : List ℕ) (e : Entry) (left rest : List Entry) → left ≡ e ∷ rest → done ++ entry_lines prefix left ≡ all → (done ++ entry_line prefix e) ++ entry_lines prefix rest ≡ all
entry_told prefix done all e left rest q told = append_assoc done (entry_line prefix e) (entry_lines prefix rest) ∙ ap (λ z. done ++ entry_lines prefix z) (sym q) ∙ told

pub decision_told : (done all : List ℕ) (k count next : ℕ) (es d : List Entry) (left rest : List (List Entry)) → left ≡ d ∷ rest → k ≡ count → next ≡ count + 1 → es ≡ d →
    done ++ decision_lines (count + 1) left ≡ all → (done ++ entry_lines (numbered (k + 1)) es) ++ decision_lines (next + 1) rest ≡ all
decision_told done all k count next es d left rest q number counted same told =
    append_assoc done (entry_lines (numbered (k + 1)) es) (decision_lines (next + 1) rest)
    ∙ (λ i. done ++ (entry_lines (numbered (number i + 1)) (same i) ++ decision_lines (counted i + 1) rest))
    ∙ ap (λ z. done ++ decision_lines (count + 1) z) (sym q) ∙ told
