use Rattle.std.proofs.Common.{◌≡◌, ◌+◌, ◌*◌, get_or, Ok, sym, ◌∙◌, rules}
use Rattle.std.proofs.lemmas.List.{take_rest}
use Rattle.inspect.proofs.Form.{split_ok}
use Rattle.inspect.proofs.texts.split_text.Goals as goal

pub returns : goal.returns
returns c =
    let cs = c.args.text.now in
    let rest = take_rest cs 3 in
    let space : get_or cs 2 0 ≡ 32 = search rules in
    (λ i. Ok (16 * c.in_ok-high.high + c.in_ok-low.low, rest i))
    ∙ sym (split_ok cs c.in_ok-high.high c.in_ok-low.low c.in_ok-high.ensures c.in_ok-low.ensures space)
