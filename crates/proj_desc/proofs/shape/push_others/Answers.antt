use Rattle.std.proofs.Common.{◌≡◌, ◌++◌, not, subst, ℕ, List}
use Rattle.std.specs.Prelude.{OnOk}
use Rattle.std.specs.List.{filter}
use Rattle.serde_json.specs.View.{view}
use Rattle.proj_desc.specs.Causes.{is_member}
use Rattle.proj_desc.proofs.Values.{keys_are}
use Rattle.proj_desc.proofs.shape.push_others.Goals as goal

pub returns-in-Some : goal.returns-in-Some
returns-in-Some c =
    subst (λ (keys : List (List ℕ)). OnOk c.push_other_keys.result (c.push_other_keys.new.names.items ≡ c.args.names.now.items ++ filter (λ k. not (is_member c.args.level k)) keys))
    (keys_are (view c.args.value.now) c.in-Some.members.now.entries c.in-Some.ensures) c.push_other_keys.ensures
