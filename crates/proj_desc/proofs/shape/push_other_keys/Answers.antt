use Rattle.std.proofs.Common.{rules, ◌≡◌, ◌∙◌, ◌++◌, ap, map, not, string_bytes}
use Rattle.std.specs.List.{filter}
use Rattle.std.specs.Map.Iter.{deref_pair}
use Rattle.std.proofs.lemmas.Map.Iter.{iter_end}
use Rattle.proj_desc.specs.Causes.{is_member}
use Rattle.proj_desc.proofs.Values.{bytes_of_pairs}
use Rattle.proj_desc.proofs.shape.push_other_keys.Goals as goal

pub returns : goal.returns
returns c =
    let e : map deref_pair c.members.yielded ≡ c.args.members.now.entries = search (rules, iter_end) in
    c.members.invariant.names
    ∙ ap (λ keys. c.args.names.now.items ++ filter (λ k. not (is_member c.args.level k)) keys)
    (bytes_of_pairs c.members.yielded ∙ ap (map (λ m. string_bytes m.0)) e)
