use Rattle.std.proofs.Common.{◌≡◌, drop}
use Rattle.ws_elem.specs.Inside.Walks.{without_all}
use Rattle.ws_elem.proofs.elem_map.ElemMap.take_all.Given as goal

-- the tree without the paths that are left
abbrev pub invariant-loop-path : goal.invariant-loop-path
invariant-loop-path l = (without_all l.self.map (drop l.path-index l.paths) ≡ without_all l.fn.self.map l.paths) × (l.self.room ≡ l.fn.self.room)
