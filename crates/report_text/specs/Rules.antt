-- The words of a rule.
use Rattle.std.specs.Prelude.{ℕ, List, [], ◌∷◌, ◌++◌, codes, decimal}
use Rattle.std.specs.List.{flat_map}
use Rattle.sched_rules.specs.declared.ws_atom.WsAtom.{WsAtom}
use Rattle.sched_rules.specs.declared.ws_atom.WsAtom.TheVariants.{Path, Mutex, Lines}
use Rattle.script_words.specs.Words.{word_text}
use Rattle.report_text.specs.Words.{path_word}

-- an atom as a script has it
abbrev pub atom_words : WsAtom → List ℕ
atom_words (Path p) = codes "path " ++ path_word p
atom_words (Mutex name) = codes "mutex " ++ word_text name
atom_words (Lines file from to) = codes "lines " ++ path_word file ++ codes " " ++ decimal from ++ codes " " ++ decimal to

-- the atoms in their order, a space between; `null` where there are none
abbrev pub rule_words : List WsAtom → List ℕ
rule_words [] = codes "null"
rule_words (atom ∷ atoms) = atom_words atom ++ flat_map (λ other. codes " " ++ atom_words other) atoms
