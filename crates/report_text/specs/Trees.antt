-- The text of a tree.
use Rattle.std.specs.Prelude.{ℕ, if◌then◌else◌, List, [], ◌∷◌, ◌++◌, length, drop, Option, Some, None, codes, decimal}
use Rattle.std.specs.List.{flat_map, join_with_byte}
use Rattle.sha2.specs.Sha256.{sha256}
use Rattle.res_path.specs.Paths.{Names, is_prefix, path_text}
use Rattle.ws_elem.specs.Kinds.{kind_word, is_file}
use Rattle.ws_elem.specs.Trees.{Tree, branch}
use Rattle.ws_elem.specs.declared.element.Element.{Element}
use Rattle.script_words.specs.Words.{word_text}
use Rattle.report_text.specs.Words.{hexadecimal}

-- names joined by slashes, a full stop where there are none
abbrev pub names_text : Names → List ℕ
names_text [] = codes "."
names_text (name ∷ names) = join_with_byte 47 (name ∷ names)

-- the path as it is seen from the base; the whole path where it isn't at or below the base
abbrev pub relative_text : Names → Names → List ℕ
relative_text base p = if is_prefix base p then names_text (drop (length base) p) else path_text p

-- the length of an element's contents and their digest
abbrev pub contents_words : List ℕ → List ℕ
contents_words bytes = codes " " ++ decimal (length bytes) ++ codes " " ++ hexadecimal (sha256 bytes)

-- a path as it is seen from the base, its element's kind, and of a file the contents
abbrev pub tree_line : Names → Names × Element → List ℕ
tree_line base e = word_text (relative_text base e.0) ++ codes " " ++ kind_word e.1.kind ++ (if is_file e.1.kind then contents_words e.1.bytes else []) ++ codes "\n"

-- the line of what is at a path, if there is something
abbrev pub found_line : Names → Names → Option Element → List ℕ
found_line base p None = []
found_line base p (Some e) = tree_line base (p, e)

abbrev pub tree_lines : Names → List (Names × Element) → List ℕ
tree_lines base = flat_map (tree_line base)

abbrev pub tree_text : Tree → Names → List ℕ
tree_text t p = tree_lines p (branch t p)

-- the digest of the text
abbrev pub digest_text : Names → List (Names × Element) → List ℕ
digest_text base es = hexadecimal (sha256 (tree_lines base es))
