use Rattle.std.proofs.Common.{◌≡◌, ◌∙◌, ◌||◌, sym, false, nat_lt, length, map, arith}
use Rattle.std.specs.List.{list_any}
use Rattle.std.proofs.lemmas.Bool.Decides.{nat_tests}
use Rattle.serde_json.specs.View.{view}
use Rattle.proj_desc.specs.Described.{command_of}
use Rattle.proj_desc.specs.Causes.{has_many_inputs}
use Rattle.proj_desc.proofs.Lists.{list_any-map}
use Rattle.proj_desc.proofs.reading.are_many.Goals as goal

pub returns : goal.returns
returns c =
    let few : nat_lt 256 (length c.args.references.now) ≡ false = grind (arith, nat_tests) in
    let short : nat_lt 64 (length c.args.commands.now) ≡ false = grind (arith, nat_tests) in
    let vs = c.args.commands.now in
    c.some_have_many_inputs.ensures ∙ list_any-map (λ d. has_many_inputs (command_of d)) view vs ∙ list_any-map has_many_inputs command_of (map view vs)
    ∙ (λ i. sym few i || sym short i || list_any has_many_inputs (map command_of (map view vs)))
