-- A table from node to path, to which the first path of a node counts.
use Rattle.std.specs.Prelude.{◌≡◌, ℕ, if◌then◌else◌, Option, Some, None, is_some}
use Rattle.std.specs.List.{AllByRecursion}
use Rattle.std.specs.FinMap.{FinMap, get, insert}
use Rattle.std.specs.Ordering.{nat_cmp}
use Rattle.res_path.specs.Paths.{Names}
use Rattle.delta_kind.specs.declared.row.Turn.TheVariants.{Lost, Gained}
use Rattle.delta_kind.specs.Rows.{Rows, place_in, node_by}

-- the table where the node has the path, unless it had one
abbrev pub kept_node : Option Names → FinMap nat_cmp Names → Names → ℕ → FinMap nat_cmp Names
kept_node None m p n = insert m n p
kept_node (Some q) m p n = m

-- the same, where there is a node
abbrev pub kept_place : FinMap nat_cmp Names → Names → Option ℕ → FinMap nat_cmp Names
kept_place m p None = m
kept_place m p (Some n) = kept_node (get m n) m p n

-- the number, where the table has it
abbrev pub known : FinMap nat_cmp Names → Option ℕ → Option ℕ
known m None = None
known m (Some n) = if is_some (get m n) then Some n else None

-- by these places each row is told as by the rows themselves
abbrev pub Serves : (ℕ → Option Names) → (ℕ → Option Names) → Rows → Type 0
Serves losers gainers rows =
    AllByRecursion (λ row. node_by losers gainers row.0 row.1 ≡ node_by (place_in Lost rows) (place_in Gained rows) row.0 row.1) rows
