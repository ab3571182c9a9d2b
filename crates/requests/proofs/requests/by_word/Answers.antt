use mathlib.Core.Bool.{Bool, false}
use mathlib.Core.List.{List}
use mathlib.Core.Path.{◌≡◌, refl, ◌∙◌}
use lib.ListN.{drop}
use Rattle.tables.specs.Bytes.{bytes}
use Rattle.tables.specs.Lists.{first_of, same_list}
use Rattle.deck.specs.Deck.{Part, field}
use Rattle.deck.specs.Answers.{fields_of}
use Rattle.merge_rules.specs.CallLists.{line_merge, line_rollback, line_range, line_alone, of_model, of_trees, of_log, words, by_word}
use Rattle.requests.proofs.Laws.Requests.{Word, read_by, word-missing, word-read, merge-line, rollback-line, word-here, word-behind}
use Rattle.requests.proofs.requests.by_word.Goals as goal

-- the line is read by one of these words
abbrev Left : List Part → List Word → Type 0
Left l ws = read_by (field l 0).bytes ws l ≡ by_word l

-- each word is asked behind those before it
module _ (l : List Part) where
  start : Left l words
  unfolding by_word
  start = refl

  not-merge : {r : Bool} → r ≡ same_list (field l 0).bytes (bytes "merge") → r ≡ false → Left l (drop 1 words)
  unfolding bytes
  not-merge e h = word-behind _ (bytes "merge", line_merge) (drop 1 words) l _ e h ∙ start

  not-rollback : {r : Bool} → r ≡ same_list (field l 0).bytes (bytes "rollback") → r ≡ false → Left l (drop 1 words) → Left l (drop 2 words)
  unfolding bytes
  not-rollback e h left = word-behind _ (bytes "rollback", line_rollback) (drop 2 words) l _ e h ∙ left

  not-range : {r : Bool} → r ≡ same_list (field l 0).bytes (bytes "range") → r ≡ false → Left l (drop 2 words) → Left l (drop 3 words)
  unfolding bytes
  not-range e h left = word-behind _ (bytes "range", line_range) (drop 3 words) l _ e h ∙ left

  not-model : {r : Bool} → r ≡ same_list (field l 0).bytes (bytes "model") → r ≡ false → Left l (drop 3 words) → Left l (drop 4 words)
  unfolding bytes
  not-model e h left = word-behind _ (bytes "model", line_alone of_model) (drop 4 words) l _ e h ∙ left

  not-trees : {r : Bool} → r ≡ same_list (field l 0).bytes (bytes "trees") → r ≡ false → Left l (drop 4 words) → Left l (drop 5 words)
  unfolding bytes
  not-trees e h left = word-behind _ (bytes "trees", line_alone of_trees) (drop 5 words) l _ e h ∙ left

  not-log : {r : Bool} → r ≡ same_list (field l 0).bytes (bytes "log") → r ≡ false → Left l (drop 5 words) → Left l (drop 6 words)
  unfolding bytes
  not-log e h left = word-behind _ (bytes "log", line_alone of_log) (drop 6 words) l _ e h ∙ left

pub returns-in_err-only_number : goal.returns-in_err-only_number
unfolding bytes
returns-in_err-only_number c =
    let l = fields_of c.args.calls.now c.args.f in
    rw c.from_residual.ensures (word-missing _ _ c.only_number.ensures _ c.in_err-only_number.was)
    ∙ merge-line l
    ∙ word-here _ (bytes "merge", line_merge) (drop 1 words) l _ c.begins_with.ensures c.if-begins_with.true
    ∙ start l

pub returns-then-begins_with : goal.returns-then-begins_with
unfolding bytes
returns-then-begins_with c =
    let l = fields_of c.args.calls.now c.args.f in
    word-read _ _ c.only_number.ensures _ _ c.in_ok-only_number.was
    ∙ merge-line l
    ∙ word-here _ (bytes "merge", line_merge) (drop 1 words) l _ c.begins_with.ensures c.if-begins_with.true
    ∙ start l

pub returns-then-begins_with-2 : goal.returns-then-begins_with-2
unfolding bytes
returns-then-begins_with-2 c =
    let l = fields_of c.args.calls.now c.args.f in
    word-read _ _ c.only_number-then-begins_with-2.ensures _ _ c.in_ok-only_number-2.was
    ∙ rollback-line l
    ∙ word-here _ (bytes "rollback", line_rollback) (drop 2 words) l _ c.begins_with-2.ensures c.if-begins_with-2.true
    ∙ not-merge l c.begins_with.ensures c.if-begins_with.false

pub returns-in_err-only_number-2 : goal.returns-in_err-only_number-2
unfolding bytes
returns-in_err-only_number-2 c =
    let l = fields_of c.args.calls.now c.args.f in
    rw c.from_residual-in_err-only_number-2.ensures (word-missing _ _ c.only_number-then-begins_with-2.ensures _ c.in_err-only_number-2.was)
    ∙ rollback-line l
    ∙ word-here _ (bytes "rollback", line_rollback) (drop 2 words) l _ c.begins_with-2.ensures c.if-begins_with-2.true
    ∙ not-merge l c.begins_with.ensures c.if-begins_with.false

pub returns-then-begins_with-3 : goal.returns-then-begins_with-3
unfolding bytes
returns-then-begins_with-3 c =
    let l = fields_of c.args.calls.now c.args.f in
    c.line_range.ensures
    ∙ word-here _ (bytes "range", line_range) (drop 3 words) l _ c.begins_with-3.ensures c.if-begins_with-3.true
    ∙ not-rollback l c.begins_with-2.ensures c.if-begins_with-2.false (not-merge l c.begins_with.ensures c.if-begins_with.false)

pub returns-then-begins_with-4 : goal.returns-then-begins_with-4
unfolding bytes
returns-then-begins_with-4 c =
    let l = fields_of c.args.calls.now c.args.f in
    c.line_alone.ensures c.args.calls.now c.requires of_model refl
    ∙ word-here _ (bytes "model", line_alone of_model) (drop 4 words) l _ c.begins_with-4.ensures c.if-begins_with-4.true
    ∙ not-range l c.begins_with-3.ensures c.if-begins_with-3.false (not-rollback l c.begins_with-2.ensures c.if-begins_with-2.false (not-merge l c.begins_with.ensures c.if-begins_with.false))

pub returns-then-begins_with-5 : goal.returns-then-begins_with-5
unfolding bytes
returns-then-begins_with-5 c =
    let l = fields_of c.args.calls.now c.args.f in
    c.line_alone-then-begins_with-5.ensures c.args.calls.now c.requires of_trees refl
    ∙ word-here _ (bytes "trees", line_alone of_trees) (drop 5 words) l _ c.begins_with-5.ensures c.if-begins_with-5.true
    ∙ not-model l c.begins_with-4.ensures c.if-begins_with-4.false (not-range l c.begins_with-3.ensures c.if-begins_with-3.false (not-rollback l c.begins_with-2.ensures c.if-begins_with-2.false (not-merge l c.begins_with.ensures c.if-begins_with.false)))

pub returns-then-begins_with-6 : goal.returns-then-begins_with-6
unfolding bytes
returns-then-begins_with-6 c =
    let l = fields_of c.args.calls.now c.args.f in
    c.line_alone-then-begins_with-6.ensures c.args.calls.now c.requires of_log refl
    ∙ word-here _ (bytes "log", line_alone of_log) (drop 6 words) l _ c.begins_with-6.ensures c.if-begins_with-6.true
    ∙ not-trees l c.begins_with-5.ensures c.if-begins_with-5.false (not-model l c.begins_with-4.ensures c.if-begins_with-4.false (not-range l c.begins_with-3.ensures c.if-begins_with-3.false (not-rollback l c.begins_with-2.ensures c.if-begins_with-2.false (not-merge l c.begins_with.ensures c.if-begins_with.false))))

pub returns : goal.returns
unfolding bytes first_of
returns c =
    let l = fields_of c.args.calls.now c.args.f in
    not-log l c.begins_with-6.ensures c.if-begins_with-6.false (not-trees l c.begins_with-5.ensures c.if-begins_with-5.false (not-model l c.begins_with-4.ensures c.if-begins_with-4.false (not-range l c.begins_with-3.ensures c.if-begins_with-3.false (not-rollback l c.begins_with-2.ensures c.if-begins_with-2.false (not-merge l c.begins_with.ensures c.if-begins_with.false)))))
