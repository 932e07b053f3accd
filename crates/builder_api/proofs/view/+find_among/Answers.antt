use Rattle.std.proofs.Common.{◌≡◌, ◌<◌, ◌++◌, ◌∷◌, length, sym, ap, subst, ◌∙◌, arith}
use Rattle.std.specs.FinMap.{find}
use Rattle.std.specs.List.Sorted.{IsStrictlySortedBy}
use Rattle.std.specs.Map.{keys_of}
use Rattle.res_path.specs.Paths.{path_cmp}
use Rattle.builder_api.proofs.Found.{joined, smaller, lower_order, higher_order, found_lower, found_here, found_higher}
use Rattle.builder_api.proofs.view.+find_among.Goals as goal

pub find_among-requires : goal.find_among-requires
find_among-requires t c =
    let all : c.args.files.now ≡ c.split_at.result.0.now ++ c.in-Some.file.now ∷ c.in-Some.higher.now =
    joined c.args.files.now c.split_at.result.0.now c.split_at.result.1.now _ c.in-Some.file.now c.in-Some.higher.now c.split_at.ensures.front c.split_at.ensures.back c.in-Some.ensures.cases.0 in
    let less : length c.split_at.result.0.now < length c.args.files.now = (smaller c.args.files.now c.split_at.result.0.now c.in-Some.file.now c.in-Some.higher.now all).0 in
    (omega (arith, c.decreases), lower_order c.split_at.result.0.now c.in-Some.file.now c.in-Some.higher.now (subst (λ files. IsStrictlySortedBy path_cmp (keys_of files)) all c.requires))

pub find_among-requires-in-Greater : goal.find_among-requires-in-Greater
find_among-requires-in-Greater t c =
    let all : c.args.files.now ≡ c.split_at.result.0.now ++ c.in-Some.file.now ∷ c.in-Some.higher.now =
    joined c.args.files.now c.split_at.result.0.now c.split_at.result.1.now _ c.in-Some.file.now c.in-Some.higher.now c.split_at.ensures.front c.split_at.ensures.back c.in-Some.ensures.cases.0 in
    let less : length c.in-Some.higher.now < length c.args.files.now = (smaller c.args.files.now c.split_at.result.0.now c.in-Some.file.now c.in-Some.higher.now all).1 in
    (omega (arith, c.decreases), higher_order c.split_at.result.0.now c.in-Some.file.now c.in-Some.higher.now (subst (λ files. IsStrictlySortedBy path_cmp (keys_of files)) all c.requires))

pub returns-in-Less : goal.returns-in-Less
returns-in-Less t c =
    let all : c.args.files.now ≡ c.split_at.result.0.now ++ c.in-Some.file.now ∷ c.in-Some.higher.now =
    joined c.args.files.now c.split_at.result.0.now c.split_at.result.1.now _ c.in-Some.file.now c.in-Some.higher.now c.split_at.ensures.front c.split_at.ensures.back c.in-Some.ensures.cases.0 in
    c.find_among.ensures
    ∙ sym (found_lower c.args.path.now c.split_at.result.0.now c.in-Some.file.now c.in-Some.higher.now (subst (λ files. IsStrictlySortedBy path_cmp (keys_of files)) all c.requires) (sym c.cmp.ensures ∙ c.in-Less.is))
    ∙ ap (find path_cmp c.args.path.now) (sym all)

pub returns-in-Equal : goal.returns-in-Equal
returns-in-Equal t c =
    let all : c.args.files.now ≡ c.split_at.result.0.now ++ c.in-Some.file.now ∷ c.in-Some.higher.now =
    joined c.args.files.now c.split_at.result.0.now c.split_at.result.1.now _ c.in-Some.file.now c.in-Some.higher.now c.split_at.ensures.front c.split_at.ensures.back c.in-Some.ensures.cases.0 in
    sym (found_here c.args.path.now c.split_at.result.0.now c.in-Some.file.now c.in-Some.higher.now (subst (λ files. IsStrictlySortedBy path_cmp (keys_of files)) all c.requires) (sym c.cmp.ensures ∙ c.in-Equal.is))
    ∙ ap (find path_cmp c.args.path.now) (sym all)

pub returns-in-Greater : goal.returns-in-Greater
returns-in-Greater t c =
    let all : c.args.files.now ≡ c.split_at.result.0.now ++ c.in-Some.file.now ∷ c.in-Some.higher.now =
    joined c.args.files.now c.split_at.result.0.now c.split_at.result.1.now _ c.in-Some.file.now c.in-Some.higher.now c.split_at.ensures.front c.split_at.ensures.back c.in-Some.ensures.cases.0 in
    c.find_among-in-Greater.ensures
    ∙ sym (found_higher c.args.path.now c.split_at.result.0.now c.in-Some.file.now c.in-Some.higher.now (subst (λ files. IsStrictlySortedBy path_cmp (keys_of files)) all c.requires) (sym c.cmp.ensures ∙ c.in-Greater.is))
    ∙ ap (find path_cmp c.args.path.now) (sym all)
