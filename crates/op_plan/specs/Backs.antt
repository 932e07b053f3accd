-- The way back before an operation.
use Rattle.std.specs.Prelude.{◌≡◌, ℕ, take, refl}
use Rattle.std.specs.Coded.{Coded, code_by, coded×, coded_ℕ}
use Rattle.ws_elem.specs.Rooms.{Room}
use Rattle.op_kind.specs.declared.side.Side.{Side}
use Rattle.op_plan.specs.Edits.{Edits, changed, HasRooms}
use Rattle.op_kind.specs.Resources.{Resources}

-- what stood at the paths that changed, the last one first, the earlier counters, and how many partners there were
pub record Way : Type 0 where
  pub tree : Edits
  pub shelf : Edits
  pub next_node : ℕ
  pub next_stamp : ℕ
  pub next_marker : ℕ
  pub partners : ℕ

-- a way is stored as the tuple of its fields
abbrev pub way_code : Coded Edits → Coded Way
way_code c = code_by
    (Edits × (Edits × (ℕ × (ℕ × (ℕ × ℕ)))))
    (coded× c (coded× c (coded× coded_ℕ (coded× coded_ℕ (coded× coded_ℕ coded_ℕ)))))
    (λ w. (w.tree, (w.shelf, (w.next_node, (w.next_stamp, (w.next_marker, w.partners))))))
    (λ p. record {
      tree = p.0;
      shelf = p.1.0;
      next_node = p.1.1.0;
      next_stamp = p.1.1.1.0;
      next_marker = p.1.1.1.1.0;
      partners = p.1.1.1.1.1;
    })
    (λ _. refl)

-- the way back to these counters and so many partners, by what stood in the tree and on the shelf
abbrev pub way_to : Side → ℕ → Edits → Edits → Way
way_to side partners tree shelf = record {
  tree = tree;
  shelf = shelf;
  next_node = side.next_node;
  next_stamp = side.next_stamp;
  next_marker = side.next_marker;
  partners = partners;
}

-- the resources after the way back
abbrev pub taken_back : Resources → Way → Resources
taken_back r w = record {
  tree = changed r.tree w.tree;
  shelf = changed r.shelf w.shelf;
  next_node = w.next_node;
  next_stamp = w.next_stamp;
  next_marker = w.next_marker;
  partners = take w.partners r.partners;
}

-- the way leads from these resources back to the earlier ones, and its paths have room
pub record HasWay (w : Way) (room shelf_room : Room) (now before : Resources) : Type 0 where
  pub leads : taken_back now w ≡ before
  pub tree_rooms : HasRooms room w.tree
  pub shelf_rooms : HasRooms shelf_room w.shelf
