-- The two runs of the program: what is left of the trees, or of the lines of a list of calls, gives what the whole gives; and the call. Assumes nothing.
use Rattle.std.specs.Borrow.{Bor}
use Rattle.std.specs.Prelude.{Option as OptionOf, Some, None, is_some}
use mathlib.Core.Bool.{Bool, true, false}
use mathlib.Core.List.{List, [], ◌∷◌, ◌++◌, append-nil}
use mathlib.Core.Option.{none, some}
use mathlib.Core.Path.{◌≡◌, refl, sym, ap, ◌∙◌}
use Prim.Native.Nat.{ℕ, suc, ◌+◌, ◌≤◌, ◌<◌}
use native.Mathlib.Numerals.{add-one}
use native.Mathlib.Omega.{arith}
use lib.ListN.{length, get_or, drop, drop_of_length-le}
use lib.Seq.{drop-cons}
use Rattle.tables.specs.Cells.{between}
use Rattle.tables.specs.ElementsTable.{elements_of, no_tree}
use Rattle.tables.specs.ModelTable.{model_of}
use Rattle.tables.specs.Records.{Tree, Fixed, State}
use Rattle.deck.specs.Answers.{part_at, Next}
use Rattle.deck.specs.Deck.{Part, parts, lines}
use Rattle.deck.specs.Load.{loaded, refused_at, load}
use Rattle.deck.proofs.Laws.Parts.{parts-some, between_cons, next-line, last_line}
use Rattle.load.specs.LoadCall.{Tables, load_result, sizes_fit, load_call, Answer, Loaded, Refused}
use Rattle.state_test.specs.StateTest.{fixed_in, state_in}
use Rattle.merge_rules.specs.Book.{call_merge}
use Rattle.merge_rules.specs.CallLists.{Request, of_call, read_request, reply, bad_call, call_lines, calls_output_of}
use Rattle.merge_rules.specs.Program.{model_lines, merge_lines, refused_deck, output_of}
use Rattle.merge_rules.specs.Standing.{Standing}
use Rattle.merge_rules.proofs.Laws.Standing.{loaded-standing, refused-load, output-of, calls-output-of}
use Rattle.printing.specs.Buffers.{Buffer, Appends, print_from}
use Rattle.printing.proofs.Laws.Buffers.{Leaves, begin, turn, rests, finish, full-stays}
use Rattle.printing.proofs.Laws.Parts.{starts}
use Rattle.output.specs.Replies.{Replies, shown, Shows, list_in, run_lines, run_output}

-- ---- what is left of a text

-- the last text of those left
last : {start now after : Buffer} {text t : List ℕ} → Leaves start text now t → Appends now t after → Appends start text after
last {t = t} l p = finish (turn (rests (sym (append-nil t)) l) p)

-- what is appended is shown
pub shows : {before after : Buffer} {text : List ℕ} → Appends before text after → Shows before text after
shows p = record { is = ap shown p.is }

-- where there is no room left, nothing of the rest is shown
full-shows : {start now : Buffer} {text rest : List ℕ} → Leaves start text now rest → length now.held ≤ now.count → Shows start text now
full-shows {now = now} {rest = rest} l h =
    let k = full-stays now rest h in
    record { is = (λ i. record { count = sym k.1 i; buffer = sym k.0 i }) ∙ ap shown l.is }

-- ---- the trees

-- so many trees are merged
pub record TreesLeft (deck schema elements : List ℕ) (start : Buffer) (whole : List ℕ) (now : Buffer) (t n : ℕ) (model log : List ℕ) : Type 0 where
  pub within : t ≤ n
  pub all : n ≡ length (elements_of elements).trees
  pub standing : Standing deck schema elements model log
  pub left : Leaves start whole now (merge_lines (fixed_in deck schema elements) (drop t (elements_of elements).trees) (state_in model log))

module _ (deck schema elements : List ℕ) where
  abbrev x : Fixed
  x = fixed_in deck schema elements

  abbrev trees : List Tree
  trees = (elements_of elements).trees

  pub trees-begin : (start : Buffer) (n : ℕ) (model log : List ℕ) → n ≡ length trees → Standing deck schema elements model log
      → TreesLeft deck schema elements start (merge_lines x trees (state_in model log)) start 0 n model log
  trees-begin start n model log e h = record { within = omega arith; all = e; standing = h; left = begin start _ }

  module _ {start now : Buffer} {whole : List ℕ} (t n : ℕ) {model log : List ℕ} (l : TreesLeft deck schema elements start whole now t n model log) where
    pub trees-turn : {after : Buffer} {model' log' : List ℕ} (f : ℕ) → t < n → f ≡ (get_or trees t no_tree).file
        → Replies deck schema elements (state_in model log) (of_call (call_merge f)) now after model' log'
        → TreesLeft deck schema elements start whole after (t + 1) n model' log'
    unfolding reply merge_lines
    trees-turn {after} {model'} {log'} f h e r =
        let k : t < length trees = omega (arith, l.all) in
        let s = state_in model log in
        let first : merge_lines x (drop t trees) s ≡ (reply x (of_call (call_merge f)) s).text ++ merge_lines x (drop (t + 1) trees) (reply x (of_call (call_merge f)) s).state =
        rw (add-one t, e) (ap (λ (ts : List Tree). merge_lines x ts s) (drop-cons trees t no_tree k))
        in
        record {
          within = omega arith;
          all = l.all;
          standing = r.state.standing;
          left = rests (ap (merge_lines x (drop (t + 1) trees)) (sym r.state.is)) (turn (rests first l.left) r.text);
        }

    pub trees-end : {after : Buffer} → n ≤ t → Appends now (model_lines x (model_of model)) after → Appends start whole after
    unfolding merge_lines
    trees-end h p =
        let k : length trees ≤ t = omega (arith, l.all) in
        last (rests (ap (λ (ts : List Tree). merge_lines x ts (state_in model log)) (drop_of_length-le trees {i = t} k)) l.left) p

-- ---- the lines of a list of calls

-- n lines are answered, up to the place at
pub record CallsLeft (deck schema elements calls : List ℕ) (start : Buffer) (whole : List ℕ) (now : Buffer) (at n : ℕ) (model log : List ℕ) : Type 0 where
  pub few : n ≤ at
  pub within : at ≤ length calls
  pub standing : Standing deck schema elements model log
  pub left : Leaves start whole now (call_lines (fixed_in deck schema elements) n (parts 10 at (drop at calls)) (state_in model log))

-- a line that another follows
call_next : (x : Fixed) (n : ℕ) (p : Part) (qs : List Part) (s : State) → 0 < length qs
    → call_lines x n (p ∷ qs) s ≡ elim (read_request p) [ none ↦ bad_call (suc n) | some r ↦ (reply x r s).text ++ call_lines x (suc n) qs (reply x r s).state ]
unfolding call_lines
call_next x n p [] s h = absurd (omega arith)
call_next x n p (q ∷ qs) s h = refl

call-last : (x : Fixed) (n : ℕ) (p : Part) (b : ℕ) (bs : List ℕ) (s : State) → p.bytes ≡ b ∷ bs → call_lines x n (p ∷ []) s ≡ bad_call (suc n)
unfolding call_lines
call-last x n p b bs s e = rw e

module _ (deck schema elements calls : List ℕ) where
  abbrev y : Fixed
  y = fixed_in deck schema elements

  pub calls-begin : (start : Buffer) (model log : List ℕ) → Standing deck schema elements model log
      → CallsLeft deck schema elements calls start (call_lines y 0 (lines calls) (state_in model log)) start 0 0 model log
  unfolding lines
  calls-begin start model log h = record { few = omega arith; within = omega arith; standing = h; left = begin start _ }

  module _ {start now : Buffer} {whole : List ℕ} (at n : ℕ) {model log : List ℕ} (l : CallsLeft deck schema elements calls start whole now at n model log) where
    pub calls-full : length now.held ≤ now.count → Shows start whole now
    calls-full h = full-shows l.left h

    pub calls-end : length calls ≤ at → Shows start whole now
    unfolding call_lines parts
    calls-end h =
        let d : drop at calls ≡ [] = drop_of_length-le calls {i = at} h in
        shows (finish (rests (ap (λ (s : List ℕ). call_lines y n (parts 10 at s) (state_in model log)) d) l.left))

    module _ (e : ℕ) (next : Next calls 10 at (length calls) e) where
      -- a line without LF
      pub calls-open : {after : Buffer} → at < length calls → length calls ≤ e → Appends now (bad_call (n + 1)) after → Shows start whole after
      calls-open h k p =
          let s = state_in model log in
          let bad : call_lines y n (parts 10 at (drop at calls)) s ≡ bad_call (n + 1) =
          ap (λ (ps : List Part). call_lines y n ps s) (last_line calls 10 at e next k)
          ∙ rw (add-one n)
          (call-last y n (part_at calls at e) (get_or calls at 0) (between (at + 1) e calls) s (between_cons calls at e (omega arith) next.within))
          in
          shows (last (rests bad l.left) p)

      module _ (h : e < length calls) where
        -- the line, by its reading
        whole-line : call_lines y n (parts 10 at (drop at calls)) (state_in model log)
            ≡ elim (read_request (part_at calls at e)) [
              | none ↦ bad_call (suc n)
              | some r ↦
                  (reply y r (state_in model log)).text
                  ++ call_lines y (suc n) (parts 10 (e + 1) (drop (e + 1) calls)) (reply y r (state_in model log)).state
            ]
        whole-line =
            ap (λ (ps : List Part). call_lines y n ps (state_in model log)) (next-line calls 10 at e next h)
            ∙ call_next y n (part_at calls at e) (parts 10 (e + 1) (drop (e + 1) calls)) (state_in model log) (parts-some 10 (e + 1) (drop (e + 1) calls))

        -- a line of another form
        pub calls-bad : {after : Buffer} → none ≡ read_request (part_at calls at e) → Appends now (bad_call (n + 1)) after → Shows start whole after
        calls-bad q p = shows (last (rests (rw (add-one n) (rw (← q) at whole-line)) l.left) p)

        -- a line that is answered
        pub calls-turn : {after : Buffer} {model' log' : List ℕ} (r : Request) → some r ≡ read_request (part_at calls at e)
            → Replies deck schema elements (state_in model log) r now after model' log'
            → CallsLeft deck schema elements calls start whole after (e + 1) (n + 1) model' log'
        calls-turn {after} {model'} {log'} r q a =
            record {
              few = omega (arith, next.past, l.few);
              within = omega arith;
              standing = a.state.standing;
              left =
                  rw (add-one n)
                  (rests (ap (call_lines y (suc n) (parts 10 (e + 1) (drop (e + 1) calls))) (sym a.state.is))
                  (turn (rests (rw (← q) at whole-line) l.left) a.text));
            }

-- ---- the runs

module _ (deck schema elements model log : List ℕ) {before after : Buffer} (given : OptionOf (Bor (List ℕ))) where
  pub listed-run : (calls : Bor (List ℕ)) → given ≡ Some calls
      → Shows before (call_lines (fixed_in deck schema elements) 0 (lines calls.now) (state_in model log)) after
      → Shows before (run_lines (is_some given) (fixed_in deck schema elements) (list_in given) (state_in model log)) after
  unfolding run_lines
  listed-run calls e p = rw e p

  pub trees-run : given ≡ None → Appends before (merge_lines (fixed_in deck schema elements) (elements_of elements).trees (state_in model log)) after
      → Shows before (run_lines (is_some given) (fixed_in deck schema elements) (list_in given) (state_in model log)) after
  unfolding run_lines
  trees-run e p = rw e (shows p)

-- ---- the call

module _ (deck calls : List ℕ) where
  -- of a deck that loads
  run-loaded : (listed : Bool) (x : Fixed) (s : State) → load deck ≡ loaded x s → run_output listed deck calls ≡ run_lines listed x calls s
  unfolding run_output run_lines calls_output_of output_of
  run-loaded true x s e = calls-output-of deck calls ∙ ap (calls_output_of calls) e
  run-loaded false x s e = output-of deck ∙ ap output_of e

  -- of a refused one
  run-refused : (listed : Bool) (n line : ℕ) → load deck ≡ refused_at n line → run_output listed deck calls ≡ refused_deck n line
  unfolding run_output calls_output_of output_of
  run-refused true n line e = calls-output-of deck calls ∙ ap (calls_output_of calls) e
  run-refused false n line e = output-of deck ∙ ap output_of e

  -- what is shown from the buffer's start
  module _ (listed : Bool) (from : ℕ) (xs : List ℕ) {after : Buffer} where
    printed-loaded : (x : Fixed) (s : State) → load deck ≡ loaded x s
        → Shows (record { held = xs; skip = from; count = 0 }) (run_lines listed x calls s) after
        → shown after ≡ print_from (run_output listed deck calls) from xs
    printed-loaded x s e p = rw (run-loaded listed x s e) (p.is ∙ starts xs from (run_lines listed x calls s))

    printed-refused : (n line : ℕ) → load deck ≡ refused_at n line
        → Appends (record { held = xs; skip = from; count = 0 }) (refused_deck n line) after
        → shown after ≡ print_from (run_output listed deck calls) from xs
    printed-refused n line e p = rw (run-refused listed n line e) ((shows p).is ∙ starts xs from (refused_deck n line))

    -- behind a load into tables of the right sizes, by its answer
    module _ (t : Tables) {a : Answer} {schema elements model log : List ℕ} (e : load_result a schema elements model log ≡ load_call deck t) where
      pub refused-run : {n line : ℕ} → sizes_fit t ≡ true → a ≡ Refused n line
          → Appends (record { held = xs; skip = from; count = 0 }) (refused_deck n line) after
          → shown after ≡ print_from (run_output listed deck calls) from xs
      refused-run {n} {line} fit g p = printed-refused n line (refused-load deck t fit (rw g at e)) p

      pub loaded-run : a ≡ Loaded → Shows (record { held = xs; skip = from; count = 0 }) (run_lines listed (fixed_in deck schema elements) calls (state_in model log)) after
          → shown after ≡ print_from (run_output listed deck calls) from xs
      loaded-run g p = printed-loaded _ _ (loaded-standing deck t (rw g at e)).loads p

-- the tables behind an accepted load stand
pub loaded-stands : (deck : List ℕ) (t : Tables) {a : Answer} {schema elements model log : List ℕ} → load_result a schema elements model log ≡ load_call deck t
    → a ≡ Loaded → Standing deck schema elements model log
loaded-stands deck t e g = (loaded-standing deck t (rw g at e)).standing
