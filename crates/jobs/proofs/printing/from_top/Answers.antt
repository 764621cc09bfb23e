use Rattle.std.proofs.Common.{◌≡◌, length, drop, rules, tests, ap, ◌∙◌}
use Rattle.std.specs.List.{position}
use Rattle.std.specs.Option.{unwrap_or}
use Rattle.std.proofs.lemmas.Iterator.{YieldsList-from_slice}
use Rattle.std.proofs.lemmas.Iterator.Search.{position_from_yields_List}
use Rattle.jobs.proofs.Texts.{nonzero, top_told, rest_of}
use Rattle.jobs.proofs.printing.from_top.Goals as goal

pub returns : goal.returns
returns c =
    let f = c.args.form.now in
    let p : c.position-top.result ≡ position nonzero f = position_from_yields_List nonzero _ _ c.position-top.result c.position-top.ensures.ran (YieldsList-from_slice f cc) (λ x b q k. search (rules, tests)) in
    rest_of f c.unwrap_or.result ∙ ap (λ i. drop i f) (c.unwrap_or.ensures ∙ ap (λ o. unwrap_or o (length f)) p) ∙ top_told f
