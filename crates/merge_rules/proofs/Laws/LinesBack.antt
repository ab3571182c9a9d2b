-- An M, B, E or C line that is read is the line printed. Assumes nothing.
use mathlib.Core.List.{List, [], ◌∷◌, ◌++◌, map}
use mathlib.Core.Option.{Option, none, some, bind}
use mathlib.Core.Path.{◌≡◌, refl, sym, ap, subst, ◌∙◌}
use Prim.Native.Nat.{ℕ, zero, suc, ◌+◌, ◌≤◌, ◌<◌}
use native.Mathlib.Numerals.{add-one}
use native.Mathlib.Omega.{arith}
use borrow.Author.Tests.{eqb-true}
use lib.Dec.{eqb, lit≤}
use lib.ListN.{length, take, drop}
use lib.Seq.{drop-drop, take_at}
use Rattle.tables.specs.Bytes.{bytes}
use Rattle.tables.specs.Cells.{Each}
use Rattle.tables.specs.Lists.{first_of}
use Rattle.tables.specs.Records.{Text, Fixed}
use Rattle.tables.specs.Texts.{bytes_at}
use Rattle.tables.proofs.Laws.Cases.{bool_case}
use Rattle.deck.specs.Deck.{Part, ahead, parts, fields, field, only, decimal, hexadecimal, depth_field, name_field, file_field, set_field, letter, by_letter, texts, text_e, text_s, text_u, text_f, text_fields, Line, T, G, S, F, M, B, E, C, line_t, line_g, line_s, line_f, line_m, line_b, line_e, line_c, kinds, read_line}
use Rattle.deck.proofs.Laws.Parts.{parts-some}
use Rattle.merge_rules.specs.Program.{decimal_of, hexadecimal_of, line_of, kind_of_text, value_of_text, text_line}
use Rattle.merge_rules.proofs.Laws.Cases.{option-case, IfSome, is_some, is_none, some-bind, any-bind}
use Rattle.merge_rules.proofs.Laws.Digits.{only-any, number-back}
use Rattle.merge_rules.proofs.Laws.Lists.{each_in, first_of-some}
use Rattle.merge_rules.proofs.Laws.Parse.{only-ok}

-- ---- parts of the deck

-- the part's bytes are those at its place
pub record At (deck : List ℕ) (p : Part) : Type 0 where
  pub rest : List ℕ
  pub is : drop p.start deck ≡ p.bytes ++ rest

abbrev StartsAt : ℕ → List Part → Type 0
StartsAt at [] = Unit
StartsAt at (p ∷ ps) = p.start ≡ at

abbrev Placed : List ℕ → ℕ → List Part → Type 0
Placed deck at ps = StartsAt at ps × Each (At deck) ps

module _ (deck : List ℕ) where
  ahead-placed : (at b : ℕ) (ps : List Part) → drop at deck ≡ b ∷ drop (suc at) deck → Placed deck (suc at) ps → Placed deck at (ahead at b ps)
  unfolding ahead
  ahead-placed at b [] e h = (refl, (record { rest = drop (suc at) deck; is = e }, tt))
  ahead-placed at b (p ∷ ps) e h =
      (refl, (record { rest = h.1.0.rest; is = e ∙ ap (λ (l : List ℕ). b ∷ l) (ap (λ (n : ℕ). drop n deck) (sym h.0) ∙ h.1.0.is) }, h.1.1))

  placed : (separator at : ℕ) (bs rest : List ℕ) → drop at deck ≡ bs ++ rest → Placed deck at (parts separator at bs)
  unfolding parts
  placed separator at [] rest h = (refl, (record { rest = rest; is = h }, tt))
  placed separator at (b ∷ bs) rest h =
      let next : drop (suc at) deck ≡ bs ++ rest = ap (λ (n : ℕ). drop n deck) (sym (add-one at)) ∙ sym (drop-drop 1 at deck) ∙ ap (drop 1) h in
      let more = placed separator (suc at) bs rest next in
      bool_case (Placed deck at) (eqb b separator) (λ _. (refl, (record { rest = b ∷ (bs ++ rest); is = h }, more.1)))
      (λ _. ahead-placed at b (parts separator (suc at) bs) (h ∙ ap (λ (l : List ℕ). b ∷ l) (sym next)) more)

  -- each part of a part of the deck is one
  pub parts-placed : (separator at : ℕ) (bs rest : List ℕ) → drop at deck ≡ bs ++ rest → Each (At deck) (parts separator at bs)
  parts-placed separator at bs rest h = (placed separator at bs rest h).1

  field-placed : (l : List Part) (i : ℕ) → Each (At deck) l → At deck (field l i)
  field-placed [] i h = record { rest = deck; is = refl }
  field-placed (p ∷ l) zero h = h.0
  field-placed (p ∷ l) (suc i) h = field-placed l i h.1

-- ---- fields joined by commas

abbrev written : List Part → List ℕ
written l = line_of (map Part.bytes l)

behind-comma : (at : ℕ) (ps : List Part) → 0 < length ps → written (record { start = at; bytes = [] } ∷ ps) ≡ 44 ∷ written ps
unfolding line_of bytes
behind-comma at [] h = absurd (omega arith)
behind-comma at (p ∷ ps) h = refl

byte-ahead : (at b : ℕ) (ps : List Part) → 0 < length ps → written (ahead at b ps) ≡ b ∷ written ps
unfolding line_of ahead
byte-ahead at b [] h = absurd (omega arith)
byte-ahead at b (p ∷ []) h = refl
byte-ahead at b (p ∷ q ∷ ps) h = refl

fields-joined : (at : ℕ) (bs : List ℕ) → written (parts 44 at bs) ≡ bs ++ bytes "\n"
unfolding parts line_of
fields-joined at [] = refl
fields-joined at (b ∷ bs) =
    let ps = parts 44 (suc at) bs in
    let some = parts-some 44 (suc at) bs in
    let rest = fields-joined (suc at) bs in
    bool_case (λ (l : List Part). written l ≡ b ∷ (bs ++ bytes "\n")) (eqb b 44)
    (λ e. behind-comma at ps some ∙ ap (λ (l : List ℕ). 44 ∷ l) rest ∙ ap (λ (c : ℕ). c ∷ (bs ++ bytes "\n")) (sym (eqb-true b 44 e)))
    (λ _. byte-ahead at b ps some ∙ ap (λ (l : List ℕ). b ∷ l) rest)

one_field : (l : List Part) → length l ≡ 1 → map Part.bytes l ≡ (field l 0).bytes ∷ []
one_field [] h = absurd (omega arith)
one_field (a ∷ []) h = refl
one_field (a ∷ b ∷ l) h = absurd (omega arith)

two_fields : (l : List Part) → length l ≡ 2 → map Part.bytes l ≡ (field l 0).bytes ∷ (field l 1).bytes ∷ []
two_fields [] h = absurd (omega arith)
two_fields (a ∷ l) h = ap (λ (r : List (List ℕ)). a.bytes ∷ r) (one_field l (omega arith))

four-fields : (l : List Part) → length l ≡ 4 → map Part.bytes l ≡ (field l 0).bytes ∷ (field l 1).bytes ∷ (field l 2).bytes ∷ (field l 3).bytes ∷ []
four-fields [] h = absurd (omega arith)
four-fields (a ∷ []) h = absurd (omega arith)
four-fields (a ∷ b ∷ l) h = ap (λ (r : List (List ℕ)). a.bytes ∷ b.bytes ∷ r) (two_fields l (omega arith))

-- ---- fields

decimal-back : (most : ℕ) (p : Part) → IfSome (λ (v : ℕ). decimal_of v ≡ p.bytes) (decimal most p)
unfolding decimal decimal_of
decimal-back most p = number-back 10 (lit≤ tt) (lit≤ tt) most p

hexadecimal-back : (bits : ℕ) (p : Part) → IfSome (λ (v : ℕ). hexadecimal_of v ≡ p.bytes) (hexadecimal bits p)
unfolding hexadecimal hexadecimal_of
hexadecimal-back bits p = number-back 16 (lit≤ tt) (lit≤ tt) _ p

letter-back : (p : Part) → IfSome (λ (k : ℕ). p.bytes ≡ k ∷ []) (letter p)
unfolding letter
letter-back p = go p.bytes
  where
    none-behind : (b : ℕ) (bs : List ℕ) → length bs ≡ 0 → b ∷ bs ≡ b ∷ []
    none-behind b [] h = refl
    none-behind b (c ∷ bs) h = absurd (omega arith)

    go : (bs : List ℕ) → IfSome (λ (k : ℕ). bs ≡ k ∷ []) (elim bs [ [] ↦ none | b ∷ cs ↦ only (eqb (length cs) 0) b ])
    go [] = is_none
    go (b ∷ cs) = only-ok _ b (λ t. none-behind b cs (eqb-true (length cs) 0 t))

-- what holds of each reading of a table under its own letter holds of the one under a letter
by-letter : {A B : Type 0} (D : B → Type 0) (table : List (ℕ × (A → Option B))) (k : ℕ) (a : A)
    → Each (λ (r : ℕ × (A → Option B)). r.0 ≡ k → IfSome D (r.1 a)) table → IfSome D (by_letter table k a)
unfolding by_letter
by-letter {A} {B} D table k a h =
    option-case (IfSome D) (first_of (λ (r : ℕ × (A → Option B)). eqb r.0 k) table) (λ _. is_none)
    (λ r f.
    let (t, i) = first_of-some (λ (r : ℕ × (A → Option B)). eqb r.0 k) table f in
    each_in (λ (r : ℕ × (A → Option B)). r.0 ≡ k → IfSome D (r.1 a)) table h r i (eqb-true r.0 k t))

module _ (x : Fixed) where
  string-back : (p : Part) → At x.deck p → bytes_at x.deck (record { start = p.start; size = length p.bytes }) ≡ p.bytes
  unfolding bytes_at
  string-back p a = ap (take (length p.bytes)) a.is ∙ take_at p.bytes a.rest (length p.bytes) refl

  TextBack : Part → Part → Text → Type 0
  TextBack kind value t = (kind_of_text t ≡ kind.bytes) × (value_of_text x t ≡ value.bytes)

  text-back : (kind value : Part) → At x.deck value → IfSome (TextBack kind value) (text_fields kind value)
  unfolding text_fields text_e text_s text_u text_f kind_of_text value_of_text bytes TextBack
  text-back kind value a =
      some-bind (letter-back kind) (λ k e. by-letter (TextBack kind value) texts k value (
        λ c. some-bind (decimal-back _ value) (λ v h. is_some (sym (e ∙ rw (sym c)), h)),
        (
          λ c. only-any _ _ (sym (e ∙ rw (sym c)), string-back value a),
          (
            λ c. some-bind (decimal-back _ value) (λ v h. is_some (sym (e ∙ rw (sym c)), h)),
            (λ c. some-bind (hexadecimal-back _ value) (λ v h. is_some (sym (e ∙ rw (sym c)), h)), tt),
          ),
        ),
      ))

  -- ---- lines

  -- these bytes are those of the line, where it is one of a tree
  abbrev pub Back : List ℕ → Line → Type 0
  Back bs (T t r) = Unit
  Back bs (G g) = Unit
  Back bs (S r) = Unit
  Back bs (F d) = Unit
  Back bs M = bs ≡ line_of (bytes "M" ∷ [])
  Back bs (B f) = bs ≡ line_of (bytes "B" ∷ decimal_of f ∷ [])
  Back bs (E d n s) = bs ≡ line_of (bytes "E" ∷ decimal_of d ∷ decimal_of n ∷ hexadecimal_of s ∷ [])
  Back bs (C d t) = bs ≡ text_line x d t

  module _ (l : List Part) where
    M-back : (field l 0).bytes ≡ 77 ∷ [] → IfSome (Back (written l)) (line_m l)
    unfolding line_m bytes
    M-back e = only-ok _ _ (λ t. ap line_of (one_field l (eqb-true _ _ t) ∙ rw e))

    B-back : (field l 0).bytes ≡ 66 ∷ [] → IfSome (Back (written l)) (line_b l)
    unfolding line_b file_field bytes
    B-back e = some-bind (decimal-back _ _) (λ f h. only-ok _ _ (λ t. ap line_of (two_fields l (eqb-true _ _ t) ∙ rw (e, h))))

    E-back : (field l 0).bytes ≡ 69 ∷ [] → IfSome (Back (written l)) (line_e l)
    unfolding line_e depth_field name_field set_field bytes
    E-back e =
        some-bind (decimal-back _ _) (λ d h. some-bind (decimal-back _ _) (λ n i. some-bind (hexadecimal-back _ _) (λ s j.
        only-ok _ _ (λ t. ap line_of (four-fields l (eqb-true _ _ t) ∙ rw (e, h, i, j))))))

    C-back : Each (At x.deck) l → (field l 0).bytes ≡ 67 ∷ [] → IfSome (Back (written l)) (line_c l)
    unfolding line_c depth_field bytes text_line TextBack
    C-back a e =
        some-bind (decimal-back _ _) (λ d h. some-bind (text-back _ _ (field-placed x.deck l 3 a)) (λ t i.
        only-ok _ _ (λ q. ap line_of (four-fields l (eqb-true _ _ q) ∙ rw (e, h, i.0, i.1)))))

  nothing-back : {A : Type 0} (o : Option A) → IfSome (λ (a : A). Unit {0}) o
  nothing-back none = is_none
  nothing-back (some a) = is_some tt

  -- what is read is printed
  pub read_back : (p : Part) → At x.deck p → IfSome (Back (p.bytes ++ bytes "\n")) (read_line p)
  unfolding read_line fields line_t line_g line_s line_f
  read_back p a =
      let l = parts 44 p.start p.bytes in
      let i = parts-placed x.deck 44 p.start p.bytes a.rest a.is in
      subst (λ (bs : List ℕ). IfSome (Back bs) (read_line p)) (fields-joined p.start p.bytes)
      (some-bind (letter-back (field l 0)) (λ k e. by-letter (Back (written l)) kinds k l (
        λ c. any-bind _ (λ t. any-bind _ (λ m. any-bind _ (λ n. any-bind _ (λ s. only-any _ _ tt)))),
        (
          λ c. any-bind _ (λ t. any-bind _ (λ q. any-bind _ (λ m. only-any _ _ tt))),
          (
            λ c. any-bind _ (λ t. any-bind _ (λ q. any-bind _ (λ n. any-bind _ (λ u. any-bind _ (λ v. any-bind _ (λ m. only-any _ _ tt)))))),
            (
              λ c. any-bind _ (λ f. any-bind _ (λ v. only-any _ _ tt)),
              (
                λ c. M-back l (e ∙ rw (sym c)),
                (λ c. B-back l (e ∙ rw (sym c)), (λ c. E-back l (e ∙ rw (sym c)), (λ c. C-back l i (e ∙ rw (sym c)), tt))),
              ),
            ),
          ),
        ),
      )))

-- `M` is read as what opens the model
pub M-read : (p : Part) → p.bytes ≡ bytes "M" → read_line p ≡ some M
unfolding read_line fields parts ahead letter by_letter first_of line_m only bytes bind
M-read p e = rw (read_line, e)
