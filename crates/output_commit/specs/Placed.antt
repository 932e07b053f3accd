-- What comes to stand where files are wanted below an output, and what goes.
use Rattle.std.specs.Prelude.{ℕ, ◌+◌, Bool, false, not, ◌&&◌, ◌||◌, if◌then◌else◌, List, [], ◌∷◌, ◌++◌, Option, Some, None}
use Rattle.std.specs.Option.{option_map}
use Rattle.std.specs.Str.{bytes_eq}
use Rattle.std.specs.FinMap.{get, contains_key, entries, retain_keys}
use Rattle.res_path.specs.Paths.{Names}
use Rattle.ws_elem.specs.Kinds.{is_file}
use Rattle.ws_elem.specs.Trees.{Tree}
use Rattle.ws_elem.specs.declared.element.Element.{Element}
use Rattle.op_kind.specs.Effects.{new_file, new_folder}
use Rattle.op_kind.specs.Entries.{Entries}
use Rattle.op_kind.specs.Members.{is_below, found_at, put_all}
use Rattle.op_kind.specs.Places.{has_file}
use Rattle.op_kind.specs.Resources.{Resources}

-- ---- one path: e is wanted, and x is there

-- a file with these contents is there
abbrev pub has_bytes : List ℕ → Option Element → Bool
has_bytes bytes None = false
has_bytes bytes (Some e) = is_file e.kind && bytes_eq e.bytes bytes

-- something is there in which files can lie
abbrev pub is_container : Option Element → Bool
is_container None = false
is_container (Some e) = not (is_file e.kind)

-- what is there serves
abbrev pub serves : Element → Option Element → Bool
serves e x = if is_file e.kind then has_bytes e.bytes x else is_container x

-- what is there is a file that gets other contents, and keeps its node
abbrev pub is_rewritten : Element → Option Element → Bool
is_rewritten e x = is_file e.kind && has_file x

-- a new file or folder, with the numbers that it draws
abbrev pub made : ℕ → ℕ → Element → Element
made node stamp e = if is_file e.kind then new_file node stamp e.bytes else new_folder node

-- a file with other contents and this stamp
abbrev pub rewritten : ℕ → List ℕ → Element → Element
rewritten stamp bytes f = record f { stamp = stamp; bytes = bytes }

-- what is to be put there, with the numbers that it draws: nothing, where what is there serves
abbrev pub fresh : ℕ → ℕ → Element → Option Element → Option Element
fresh node stamp e x =
    if serves e x then None
    else if is_rewritten e x then option_map (rewritten stamp e.bytes) x
    else Some (made node stamp e)

-- how many nodes it draws
abbrev pub nodes_of : Element → Option Element → ℕ
nodes_of e x = if serves e x || is_rewritten e x then 0 else 1

-- how many stamps it draws
abbrev pub stamps_of : Element → Option Element → ℕ
stamps_of e x = if is_file e.kind && not (serves e x) then 1 else 0

-- ---- all paths

-- what is to be put where these are wanted in t, the numbers drawn in their order
abbrev pub placed : Tree → ℕ → ℕ → Entries → Entries
placed t node stamp [] = []
placed t node stamp (e ∷ es) =
    let x = get t e.0 in
    found_at e.0 (fresh node stamp e.1 x) ++ placed t (node + nodes_of e.1 x) (stamp + stamps_of e.1 x) es

-- the sum of this over the elements that are wanted, each with what is there in t
abbrev pub total : (Element → Option Element → ℕ) → Tree → Entries → ℕ
total count t [] = 0
total count t (e ∷ es) = count e.1 (get t e.0) + total count t es

-- the tree without what lies below o and isn't wanted
abbrev pub cleared : Tree → Names → Tree → Tree
cleared t o w = retain_keys t (λ q. not (is_below o q && not (contains_key w q)))

-- below o lies what is wanted and nothing else, and above it lies what is wanted too
abbrev pub with_wanted : Resources → Names → Tree → Resources
with_wanted r o w = record r {
  tree = put_all (cleared r.tree o w) (placed r.tree r.next_node r.next_stamp (entries w));
  next_node = r.next_node + total nodes_of r.tree (entries w);
  next_stamp = r.next_stamp + total stamps_of r.tree (entries w);
}
