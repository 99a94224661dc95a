use Rattle.std.proofs.Common.{rules, ◌≡◌, ◌∙◌, ◌++◌, ◌∷◌, [], sym, ap, subst, ℕ, List, true, cond, Result, Ok, Err, OnOk, true≢false}
use Rattle.std.specs.Prelude.{Option, None, is_some, string_bytes}
use Rattle.std.proofs.lemmas.List.{map-append}
use Rattle.std.specs.Result.{is_ok}
use Rattle.indexmap.proofs.CallerLemmas.{insert_entry-new}
use Rattle.indexmap.specs.IndexMap.{get_by_text}
use Rattle.name_index.specs.Entries.{entries_of}
use Rattle.name_index.specs.Names.{number_of}
use Rattle.name_index.proofs.EntryLemmas.{found_again}
use Rattle.name_index.proofs.index.NameIndex.add.Goals as goal

ok_gives : {T E : Type 0} (r : Result T E) (X : Type 0) → is_ok r ≡ true → OnOk r X → X
ok_gives (Ok x) X good h = h
ok_gives (Err e) X good h = absurd (true≢false (sym good))

pub returns-clause-names : goal.returns-clause-names
returns-clause-names c =
    let none : number_of c.args.self.now c.args.name.now ≡ None = search rules in
    let good : is_ok c.insert.result ≡ true = search rules in
    let key_is = c.in_ok-key.ensures.ok in
    let absent : get_by_text c.self.inside.numbers (string_bytes c.in_ok-key.key) ≡ None =
    subst (λ t. get_by_text c.self.inside.numbers t ≡ None) (sym key_is) (found_again c.self.inside.numbers.entries c.args.name.now ∙ ap (λ (es : List (List ℕ × ℕ)). number_of es c.args.name.now) c.self.view_is ∙ none) in
    let entries = ok_gives c.insert.result _ good c.insert.ensures.entries in
    ap entries_of (entries ∙ insert_entry-new _ c.self.inside.numbers c.in_ok-key.key c.args.number absent)
    ∙ map-append _ c.self.inside.numbers.entries ((c.in_ok-key.key, c.args.number) ∷ [])
    ∙ ap (λ t. entries_of c.self.inside.numbers.entries ++ (t, c.args.number) ∷ []) key_is
    ∙ ap (λ (es : List (List ℕ × ℕ)). es ++ (c.args.name.now, c.args.number) ∷ []) c.self.view_is
    ∙ ap (λ (o : Option ℕ). cond (is_some o) c.args.self.now (c.args.self.now ++ (c.args.name.now, c.args.number) ∷ [])) (sym none)
