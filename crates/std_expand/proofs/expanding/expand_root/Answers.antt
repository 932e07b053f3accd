use Rattle.std.proofs.Common.{sym, ◌∙◌}
use Rattle.std.proofs.lemmas.Result.{on_ok_weaker}
use Rattle.std_expand.specs.Expand.{file_named}
use Rattle.std_expand.specs.Inside.Lookups.{found}
use Rattle.std_expand.proofs.Making.{same_named, no_sources}
use Rattle.std_expand.proofs.expanding.expand_root.Goals as goal

pub returns : goal.returns
returns c =
    on_ok_weaker c.expand_files.result
    (same_named (found c.in_ok-named.named.files.entries) (file_named c.args.root.now c.args.files.now) c.args.root.now c.args.files.now c.args.made.now c.expand_files.new.made c.in_ok-named.ensures)
    c.expand_files.ensures

pub returns-then-not-has_sources : goal.returns-then-not-has_sources
returns-then-not-has_sources c =
    no_sources (file_named c.args.root.now c.args.files.now) c.args.root.now c.args.made.now c.args.files.now (sym c.has_sources.ensures ∙ c.if-not-has_sources.true)
