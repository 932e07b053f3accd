use Rattle.std.proofs.Common.{◌≡◌, ◌↔◌, map}
use Rattle.std.specs.FinMap.{values}
use Rattle.save_valid.specs.Inside.Contents.{Agree, kept_all}
use Rattle.save_valid.proofs.contents.keep_tree.Given as goal

-- what is left decides
abbrev pub invariant-loop-path : goal.invariant-loop-path
invariant-loop-path l = (Agree l.contents (map (λ e. e.1) l._path-iterator) ↔ Agree l.initial.contents (values l.tree.map))
    × (kept_all l.contents (map (λ e. e.1) l._path-iterator) ≡ kept_all l.initial.contents (values l.tree.map))
