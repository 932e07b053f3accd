-- What is printed of a member's name and of a cause.
use Rattle.std.specs.Prelude.{ℕ, List, ◌∷◌, ◌++◌, codes, decimal}
use Rattle.proj_desc.specs.declared.member.Member.{Member}
use Rattle.proj_desc.specs.declared.member.Member.TheVariants.{Builder, Commands, Inputs, Output, References}
use Rattle.proj_desc.specs.declared.cause.DescCause.{DescCause}
use Rattle.proj_desc.specs.declared.cause.DescCause.TheVariants as cause

abbrev pub member_word : Member → List ℕ
member_word Builder = codes "builder"
member_word Commands = codes "commands"
member_word Inputs = codes "inputs"
member_word Output = codes "output"
member_word References = codes "references"

-- the words of a cause, with one space between
abbrev pub cause_words : DescCause → List ℕ
cause_words cause.NotJson = codes "not-json"
cause_words cause.NotObject = codes "not-object"
cause_words (cause.Member name) = codes "member " ++ name
cause_words (cause.Wrong name) = codes "wrong " ++ member_word name
cause_words cause.Many = codes "many"
cause_words cause.BadName = codes "name"
cause_words cause.BadPath = codes "path"
cause_words cause.SelfReference = codes "self"
cause_words (cause.Double name) = codes "double " ++ name
cause_words (cause.Foreign i) = codes "foreign " ++ decimal i
cause_words (cause.Outputs i j) = codes "output " ++ (decimal i ++ 32 ∷ decimal j)
cause_words (cause.Inputs i j) = codes "input " ++ (decimal i ++ 32 ∷ decimal j)
