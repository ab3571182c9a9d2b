-- What the program and the tables hold of the lines so far. Assumes nothing.
use Rattle.std.specs.Prelude.{Result, Ok, Err, true, false, List, [], ◌≡◌, ℕ, zero, suc, ◌≤◌, ◌<◌, eqb, length, take}
use Rattle.std.proofs.Math.Option.{Option}
use Rattle.tables.specs.Cells.{Each}
use Rattle.tables.specs.Limits.{file_limit, depth_limit}
use Rattle.tables.specs.Lists.{any_of}
use Rattle.tables.specs.Records.{Element, TypeNumber, SubElement, File, Tree, content_items}
use Rattle.tables.specs.ElementsTable.{elements_of, GoodElements}
use Rattle.tables.specs.ModelTable.{count_of, model_of, GoodModel}
use Rattle.tables.specs.SchemaTable.{schema_of, GoodSchema}
use Rattle.deck.specs.Deck.{Line}
use Rattle.deck.specs.Load.{Loading, Res, ok, refused, form, schema_rule, tree_rule, limit, kind_t, kind_g, kind_s, kind_f, kind_m, kind_b, given, ◌>>=◌, load_line}
use Rattle.schema_calls.specs.Calls.{PathsClosed}
use Rattle.load.specs.declared.progress.Kind.{Kind}
use Rattle.load.specs.declared.progress.Kind.TheVariants.{T, G, S, F, M, B}
use Rattle.load.specs.declared.progress.Progress.{Progress}
use Rattle.load.specs.declared.refusals.Refusal.{Refusal}
use Rattle.load.specs.declared.refusals.Refusal.TheVariants.{WrongSize, Form, SchemaRule, TreeRule, Limit}

-- the largest number of open elements: one of each depth
abbrev pub open_limit : ℕ
open_limit = suc depth_limit

-- the rules' number of a kind
abbrev pub kind_number : Kind → ℕ
kind_number T = kind_t
kind_number G = kind_g
kind_number S = kind_s
kind_number F = kind_f
kind_number M = kind_m
kind_number B = kind_b

-- the rules' number of a refusal; 0: a table of a wrong size
abbrev pub refusal_number : Refusal → ℕ
refusal_number WrongSize = 0
refusal_number Form = form
refusal_number SchemaRule = schema_rule
refusal_number TreeRule = tree_rule
refusal_number Limit = limit

-- the lines so far
abbrev pub loading_of : Progress → List ℕ → List ℕ → List ℕ → Loading
loading_of p schema elements model =
    record {
      latest = kind_number p.latest;
      model_seen = p.seen;
      root_due = p.due;
      above = take p.depth p.above;
      schema = schema_of schema;
      elements = elements_of elements;
      model = model_of model;
    }

-- how many of the numbers below n are the number of an entry
unfoldable pub taken : {A : Type 0} → (A → ℕ) → ℕ → List A → ℕ
taken number zero l = 0
taken number (suc n) l = elim (any_of (λ a. eqb (number a) n) l) [ true ↦ suc (taken number n l) | false ↦ taken number n l ]

-- what each line keeps, so that the tables have room for the next one; early: S rows stand behind all groups
pub record LoadingFits (l : Loading) : Type 0 where
  pub same : count_of l.model ≡ length l.elements.names
  pub opened : Each (λ (e : Element). e < length l.elements.names) l.above
  pub known : Each (λ (t : TypeNumber). t < length l.schema.types) l.elements.types
  pub children : Each (λ (r : SubElement). r.child_type < length l.schema.types) l.schema.sub_elements
  pub texts : length l.elements.texts ≤ content_items l.model
  pub files : Each (λ (d : File). d.file < file_limit) l.schema.files
  pub one_line : length l.schema.files ≡ taken (λ (d : File). d.file) file_limit l.schema.files
  pub one_tree : length l.elements.trees ≡ taken (λ (t : Tree). t.file) file_limit l.elements.trees
  pub closed : PathsClosed l.schema
  pub early : l.latest ≤ kind_g → l.schema.sub_elements ≡ []

pub record GoodLoading (p : Progress) (schema elements model : List ℕ) : Type 0 where
  pub depth : p.depth ≤ open_limit
  pub room : length p.above ≡ open_limit
  pub good_schema : GoodSchema schema
  pub good_elements : GoodElements elements
  pub good_model : GoodModel model
  pub fits : LoadingFits (loading_of p schema elements model)

-- what a line gives; none where its form is wrong
abbrev pub line_result : Loading → Option Line → Res Loading
line_result l line = given form line >>= load_line l

-- a line's answer as the rules have it; of the tables after a refusal it says nothing: the call clears all tables then
unfoldable pub step_is : Result Progress Refusal → List ℕ → List ℕ → List ℕ → Res Loading
step_is (Ok p) schema elements model = ok (loading_of p schema elements model)
step_is (Err r) schema elements model = refused (refusal_number r)

-- the lines so far, after a line: those before it where it is refused
unfoldable pub progress_after : Progress → Result Progress Refusal → Progress
progress_after p (Ok q) = q
progress_after p (Err r) = p

-- r, with the tables, is what a line behind p gives
pub record StepResult (p : Progress) (r : Result Progress Refusal) (schema elements model : List ℕ) (o : Res Loading) : Type 0 where
  pub is : step_is r schema elements model ≡ o
  pub good : GoodLoading (progress_after p r) schema elements model
