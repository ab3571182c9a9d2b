-- The loop over the lines: what is left, from what the lines so far gave, is the whole load. Assumes nothing.
use mathlib.Core.Bool.{true, false}
use mathlib.Core.List.{List, [], ◌∷◌}
use Rattle.std.specs.Prelude.{Result, Ok, Err}
use mathlib.Core.Path.{◌≡◌, refl, sym, ap, ◌∙◌}
use Prim.Native.Nat.{ℕ, zero, suc, ◌+◌, ◌≤◌, ◌<◌}
use native.Mathlib.Numerals.{add-one}
use native.Mathlib.Omega.{arith}
use borrow.Author.Tests.{le-leb, lt-leb}
use lib.ListN.{length, get_or, drop, replicate}
use lib.Seq.{drop-length}
use Rattle.tables.specs.Limits.{deck_limit, file_limit}
use Rattle.tables.specs.Records.{File, Tree, content_items}
use Rattle.tables.specs.ElementsTable.{HoldsElements}
use Rattle.tables.specs.Lists.{any_of, sum}
use Rattle.tables.specs.ModelTable.{HoldsModel}
use Rattle.tables.specs.SchemaTable.{HoldsSchema}
use Rattle.tables.specs.Cells.{between}
use Rattle.deck.specs.Answers.{part_at, Next, line_is, LineAt}
use Rattle.deck.specs.Deck.{Part, parts, lines, read_line}
use Rattle.deck.specs.Load.{Loading, Res, ok, refused, Load, refused_at, form, nothing, load_lines, finish, load}
use Rattle.deck.proofs.Laws.Parts.{parts-some, between_cons, next-line, last_line}
use Rattle.schema_calls.proofs.Laws.Closed.{closed_none}
use Rattle.load.specs.Lines.{open_limit, loading_of, taken, LoadingFits, GoodLoading, line_result, step_is, progress_after, StepResult}
use Rattle.load.specs.LoadCall.{answer_is, Loads}
use Rattle.load.specs.declared.progress.Progress.{Progress}
use Rattle.load.specs.declared.progress.Kind.TheVariants.{T}
use Rattle.load.specs.declared.refusals.LoadError.{LoadError}
use Rattle.load.specs.declared.refusals.Refusal.{Refusal}
use Rattle.load.specs.declared.refusals.Refusal.TheVariants.{Form, TreeRule, Limit}
use Rattle.std.specs.Prelude as program_option
use Rattle.deck.specs.declared.lines.Line as program

-- ---- before the first line

taken_none : {A : Type 0} (number : A → ℕ) (n : ℕ) → taken number n [] ≡ 0
unfolding taken any_of
taken_none number zero = refl
taken_none number (suc n) = taken_none number n

abbrev pub first_progress : Progress
first_progress = record { latest = T; seen = false; due = false; depth = 0; above = replicate open_limit 0 }

fits-nothing : LoadingFits nothing
unfolding content_items sum
fits-nothing =
    record {
      same = refl;
      opened = tt;
      known = tt;
      children = tt;
      texts = omega arith;
      files = tt;
      one_line = sym (taken_none (λ (d : File). d.file) file_limit);
      one_tree = sym (taken_none (λ (t : Tree). t.file) file_limit);
      closed = closed_none nothing.schema refl refl;
      early = λ h. refl;
    }

-- ---- the lines so far

-- n lines are read, up to the place at
pub record Reading (deck : List ℕ) (p : Progress) (at n : ℕ) (schema elements model : List ℕ) : Type 0 where
  pub few : n ≤ at
  pub within : at ≤ length deck
  pub good : GoodLoading p schema elements model
  pub is : load_lines deck n (parts 10 at (drop at deck)) (loading_of p schema elements model) ≡ load deck

pub reading-start : (deck schema elements model : List ℕ) (p : Progress) → length deck ≤ deck_limit → HoldsSchema schema nothing.schema
    → HoldsElements elements nothing.elements → HoldsModel model nothing.model → p ≡ first_progress → Reading deck p 0 0 schema elements model
unfolding load lines
reading-start deck schema elements model p h s e m z =
    let l : loading_of p schema elements model ≡ nothing = rw (z, s.is, e.is, m.is) in
    record {
      few = omega arith;
      within = omega arith;
      good =
          record {
            depth = rw z (omega arith);
            room = rw z;
            good_schema = s.good;
            good_elements = e.good;
            good_model = m.good;
            fits = rw l fits-nothing;
          };
      is = rw (l, le-leb (length deck) deck_limit h, load);
    }

-- ---- one line

abbrev pub failed : Refusal → ℕ → LoadError
failed r line = record { refusal = r; line = line }

-- what follows a line, with the lines behind it
abbrev onward : List ℕ → ℕ → List Part → Res Loading → Load
onward deck n qs o = elim o [ ok l ↦ load_lines deck (suc n) qs l | refused r ↦ refused_at r (suc n) ]

load-next : (deck : List ℕ) (n : ℕ) (p : Part) (qs : List Part) (l : Loading) → 0 < length qs
    → load_lines deck n (p ∷ qs) l ≡ onward deck n qs (line_result l (read_line p))
unfolding load_lines
load-next deck n p [] l h = absurd (omega arith)
load-next deck n p (q ∷ qs) l h = refl

load-last : (deck : List ℕ) (n : ℕ) (p : Part) (b : ℕ) (bs : List ℕ) (l : Loading) → p.bytes ≡ b ∷ bs
    → load_lines deck n (p ∷ []) l ≡ refused_at form (suc n)
unfolding load_lines
load-last deck n p b bs l e = rw e

module _ (deck : List ℕ) (p : Progress) (at n : ℕ) (schema elements model : List ℕ) (r : Reading deck p at n schema elements model) where
  -- a line without LF
  pub reading-open : at < length deck → Next deck 10 at (length deck) (length deck) → Loads (Err (failed Form (n + 1))) deck schema elements model (load deck)
  unfolding answer_is
  reading-open h next =
      record {
        is =
            rw (add-one n)
            (sym (load-last deck n (part_at deck at (length deck)) (get_or deck at 0) (between (at + 1) (length deck) deck) (loading_of p schema elements model)
            (between_cons deck at (length deck) h next.within))
            ∙ ap (λ (ps : List Part). load_lines deck n ps (loading_of p schema elements model)) (sym (last_line deck 10 at (length deck) next (omega arith))) ∙ r.is);
        good_schema = r.good.good_schema;
        good_elements = r.good.good_elements;
        good_model = r.good.good_model;
      }

  module _ (line : program_option.Option program.Line) (behind : ℕ) (found : LineAt deck at line behind) (s : Result Progress Refusal) (schema' elements' model' : List ℕ)
      (led : StepResult p s schema' elements' model' (line_result (loading_of p schema elements model) (line_is line))) where
    whole : onward deck n (parts 10 behind (drop behind deck)) (step_is s schema' elements' model') ≡ load deck
    whole =
        rw (led.is, found.reads.is, found.is)
        (sym (load-next deck n (part_at deck at found.end) (parts 10 (found.end + 1) (drop (found.end + 1) deck)) (loading_of p schema elements model) (parts-some 10 (found.end + 1) (drop (found.end + 1) deck)))
        ∙ ap (λ (ps : List Part). load_lines deck n ps (loading_of p schema elements model)) (sym (next-line deck 10 at found.end found.next found.within)) ∙ r.is)

    pub reading-taken : (q : Progress) → s ≡ Ok q → Reading deck q behind (n + 1) schema' elements' model'
    unfolding step_is progress_after
    reading-taken q v =
        record {
          few = omega (arith, found.next.past, found.is, r.few);
          within = omega (arith, found.within, found.is);
          good = rw v at led.good;
          is = rw (add-one n) (rw v at whole);
        }

    pub reading-refused : (a : Result (Unit {0}) LoadError) → ((q : Progress) → s ≡ Ok q → ⊥)
        → ((x : Refusal) → s ≡ Err x → a ≡ Err (failed x (n + 1))) → Loads a deck schema' elements' model' (load deck)
    unfolding step_is answer_is
    reading-refused a taken broken = by s refl
      where
        by : (t : Result Progress Refusal) → s ≡ t → Loads a deck schema' elements' model' (load deck)
        by (Ok q) v = absurd (taken q v)
        by (Err x) v =
            record {
              is = rw (broken x v, add-one n) (rw v at whole);
              good_schema = led.good.good_schema;
              good_elements = led.good.good_elements;
              good_model = led.good.good_model;
            }

-- ---- behind the last line

pub reading-end : (deck : List ℕ) (p : Progress) (at n : ℕ) (schema elements model : List ℕ) (a : Result (Unit {0}) LoadError) → Reading deck p at n schema elements model
    → length deck ≤ at → answer_is a deck schema elements model ≡ finish deck n (loading_of p schema elements model)
    → Loads a deck schema elements model (load deck)
unfolding load_lines parts
reading-end deck p at n schema elements model a r h e =
    let z : at ≡ length deck = omega (arith, r.within) in
    let d : drop at deck ≡ [] = rw z (drop-length deck) in
    record {
      is = e ∙ rw d at r.is;
      good_schema = r.good.good_schema;
      good_elements = r.good.good_elements;
      good_model = r.good.good_model;
    }

module _ (deck schema elements model : List ℕ) (p : Progress) (n : ℕ) where
  pub not_seen : p.seen ≡ false → answer_is (Err (failed TreeRule n)) deck schema elements model ≡ finish deck n (loading_of p schema elements model)
  unfolding answer_is finish
  not_seen h = rw (h, finish)

  pub root-due : p.seen ≡ true → p.due ≡ true
      → answer_is (Err (failed TreeRule n)) deck schema elements model ≡ finish deck n (loading_of p schema elements model)
  unfolding answer_is finish
  root-due h k = rw (h, finish, k)

  pub all_seen : p.seen ≡ true → p.due ≡ false → answer_is (Ok tt) deck schema elements model ≡ finish deck n (loading_of p schema elements model)
  unfolding answer_is finish
  all_seen h k = rw (h, finish, k)

-- ---- a deck past its limit

pub load-long : (deck schema elements model : List ℕ) → deck_limit < length deck → HoldsSchema schema nothing.schema
    → HoldsElements elements nothing.elements → HoldsModel model nothing.model → Loads (Err (failed Limit 0)) deck schema elements model (load deck)
unfolding load answer_is
load-long deck schema elements model h s e m =
    record { is = rw (lt-leb (length deck) deck_limit h, load); good_schema = s.good; good_elements = e.good; good_model = m.good }
