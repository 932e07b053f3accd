-- What a commit takes away, and how many files it touches.
use Rattle.std.specs.Prelude.{ℕ, ◌+◌, Bool, not, if◌then◌else◌, filter, length, Option}
use Rattle.std.specs.FinMap.{contains_key, entries}
use Rattle.res_path.specs.Paths.{Names}
use Rattle.ws_elem.specs.Kinds.{is_file}
use Rattle.ws_elem.specs.Trees.{Tree}
use Rattle.ws_elem.specs.declared.element.Element.{Element}
use Rattle.op_kind.specs.Entries.{Entries}
use Rattle.op_kind.specs.Members.{members}
use Rattle.op_kind.specs.Places.{has_file}
use Rattle.output_commit.specs.Placed.{serves, total}

-- those of these that aren't wanted
abbrev pub unwanted : Tree → Entries → Entries
unwanted w es = filter (λ e. not (contains_key w e.0)) es

-- how many files there are among these
abbrev pub count_files : Entries → ℕ
count_files es = length (filter (λ e. is_file e.1.kind) es)

-- where e is wanted and x is there, a file comes, goes or gets other contents
abbrev pub is_touched : Element → Option Element → Bool
is_touched e x = if is_file e.kind then not (serves e x) else has_file x

abbrev pub touches_of : Element → Option Element → ℕ
touches_of e x = if is_touched e x then 1 else 0

-- how many files come, go or get other contents so that below o lies what is wanted: those that aren't wanted go
abbrev pub touched : Tree → Names → Tree → ℕ
touched t o w = count_files (unwanted w (members t o)) + total touches_of t (entries w)
