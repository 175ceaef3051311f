-- Headings noted by the places of their names, and a name looked up among them.
use mathlib.Core.Bool.{Bool, true, false}
use mathlib.Core.Path.{◌≡◌, refl, sym, ap, ◌∙◌}
use mathlib.Core.List.{List, [], ◌∷◌, ◌++◌, append_assoc, append-nil}
use Prim.Native.Nat.{ℕ, suc, ◌+◌, ◌≤◌, ◌<◌}
use native.Mathlib.Omega.{arith}
use native.Mathlib.Numerals.{add-one}
use native.Mathlib.Decide.{ℕ_discrete}
use lib.ListN.{length, get_or, take, drop, set, length-append, length-set, drop_of_length-le, get_or-append}
use lib.Seq.{drop-cons, get_or_at, get_or-set_same, get_or-set_other}
use Rattle.tagged.specs.Lines.{Name, Line, heading, broader, narrower, other, same, is_name, bt, nt, named, line_of, lines_from, lines_of}
use Rattle.tagged.specs.Listing.{number_of, headings_of}
use Rattle.terms.specs.Places.{end_of, bytes_of}
use Rattle.terms.specs.Gathering.{Noted, AllNoted, LineNoted, RoomToNote}
use Rattle.terms.specs.InCode.{line_by}
use Rattle.terms.specs.declared.lines.Form.{Form}
use Rattle.terms.specs.declared.lines.Form.TheVariants.{Heading, Broader, Narrower, Other}
use Rattle.terms.proofs.LineWays.{line-at, line-cut-at, lines_past}

-- ---- a name among headings

module _ (name : Name) (names : List Name) where
  -- from heading x on
  abbrev pub number_from : ℕ → ℕ
  number_from x = number_of name (drop x names)

  module _ (x : ℕ) where
    pub among_none : length names ≤ x → number_from x ≡ 0
    unfolding number_of
    among_none over = ap (number_of name) (drop_of_length-le names over)

    module _ (low : x < length names) where
      pub among-here : same name (get_or names x []) ≡ true → number_from x ≡ 0
      unfolding number_of
      among-here is = ap (number_of name) (drop-cons names x [] low) ∙ rw (is, number_of) refl

      pub among_later : same name (get_or names x []) ≡ false → number_from x ≡ suc (number_from (x + 1))
      unfolding number_of
      among_later is = rw (add-one x) (ap (number_of name) (drop-cons names x [] low) ∙ rw (is, number_of) refl)

-- ---- one line, by the form that was found

module _ (form : Form) (bs : List ℕ) (is : line_by form bs ≡ line_of bs) (count : ℕ) where
  line-by : (line : Line) → (line_by form bs ≡ line) → line_of bs ≡ line
  line-by line e = sym is ∙ e

  pub note_room : form ≡ Heading → RoomToNote (line_of bs) count → count < 341
  note_room e room = rw (line-by (heading bs) (ap (λ (f : Form). line_by f bs) e)) at room

  module _ (at end : ℕ) (opens ends : List ℕ) where
    pub noted-heading : form ≡ Heading → LineNoted (line_of bs) at end count (count + 1) opens (set opens count at) ends (set ends count end)
    noted-heading e = rw (line-by (heading bs) (ap (λ (f : Form). line_by f bs) e)) (record { counted = refl; opened = refl; ended = refl })

    pub noted-broader : form ≡ Broader → LineNoted (line_of bs) at end count count opens opens ends ends
    noted-broader e = rw (line-by (broader (drop 5 bs)) (ap (λ (f : Form). line_by f bs) e)) (record { counted = refl; opened = refl; ended = refl })

    pub noted-narrower : form ≡ Narrower → LineNoted (line_of bs) at end count count opens opens ends ends
    noted-narrower e = rw (line-by (narrower (drop 5 bs)) (ap (λ (f : Form). line_by f bs) e)) (record { counted = refl; opened = refl; ended = refl })

    pub noted_other : form ≡ Other → LineNoted (line_of bs) at end count count opens opens ends ends
    noted_other e = rw (line-by other (ap (λ (f : Form). line_by f bs) e)) (record { counted = refl; opened = refl; ended = refl })

-- a heading's own line is its name
line-name : (bs : List ℕ) (name : Name) → line_of bs ≡ heading name → bs ≡ name
unfolding line_of named
line-name bs name is = by (same (take 5 bs) bt) (same (take 5 bs) nt) (is_name (drop 5 bs)) (is_name bs) is
  where
    by : (a b c d : Bool)
        → elim a [
          | true ↦ elim c [ true ↦ broader (drop 5 bs) | false ↦ other ]
          | false ↦ elim b [ true ↦ elim c [ true ↦ narrower (drop 5 bs) | false ↦ other ] | false ↦ elim d [ true ↦ heading bs | false ↦ other ] ]
        ] ≡ heading name → bs ≡ name
    by true b true d is = absurd (let z : ◌≡◌ {A = ℕ} 0 1 = cc in omega arith)
    by true b false d is = absurd (let z : ◌≡◌ {A = ℕ} 0 1 = cc in omega arith)
    by false true true d is = absurd (let z : ◌≡◌ {A = ℕ} 0 1 = cc in omega arith)
    by false true false d is = absurd (let z : ◌≡◌ {A = ℕ} 0 1 = cc in omega arith)
    by false false c true is = cc
    by false false c false is = absurd (let z : ◌≡◌ {A = ℕ} 0 1 = cc in omega arith)

-- ---- the headings before place `at` are noted

pub record Noting (s : List ℕ) (at count : ℕ) (opens ends : List ℕ) : Type 0 where
  pub front : List Name
  pub all : headings_of (lines_of s) ≡ front ++ headings_of (lines_from [] (drop at s))
  pub counted : count ≡ length front
  pub noted : Noted s opens ends front count
  pub opens_long : length opens ≡ 341
  pub ends_long : length ends ≡ 341

pub noting_first : (s opens ends : List ℕ) → length opens ≡ 341 → length ends ≡ 341 → Noting s 0 0 opens ends
unfolding lines_of
noting_first s opens ends opens-long ends-long =
    record {
      front = [];
      all = refl;
      counted = refl;
      noted = record { inside = λ x low. absurd (omega arith); stand = λ x low. absurd (omega arith) };
      opens_long = opens-long;
      ends_long = ends-long;
    }

-- one heading more
module _ (s : List ℕ) (front : List Name) (name : Name) (count at end : ℕ) (opens ends : List ℕ) (n : Noted s opens ends front count)
    (counted : count ≡ length front) (room : count < 341) (opens-long : length opens ≡ 341) (ends-long : length ends ≡ 341)
    (inside : end ≤ length s) (is : bytes_of s at end ≡ name) where
  one_more : Noted s (set opens count at) (set ends count end) (front ++ (name ∷ [])) (count + 1)
  one_more = record { inside = λ x low. by-inside x low (ℕ_discrete x count); stand = λ x low. by-stand x low (ℕ_discrete x count) }
    where
      end-new : get_or (set ends count end) count 0 ≡ end
      end-new = get_or-set_same ends count end 0 (omega arith)

      open_new : get_or (set opens count at) count 0 ≡ at
      open_new = get_or-set_same opens count at 0 (omega arith)

      by-inside : (x : ℕ) → x < count + 1 → Dec (x ≡ count) → get_or (set ends count end) x 0 ≤ length s
      by-inside x low (yes e) = rw e (omega (arith, end-new))
      by-inside x low (no differs) = omega (arith, get_or-set_other ends count x end 0 differs, n.inside x (omega (arith, differs)))

      by-stand : (x : ℕ) → x < count + 1 → Dec (x ≡ count)
          → bytes_of s (get_or (set opens count at) x 0) (get_or (set ends count end) x 0) ≡ get_or (front ++ (name ∷ [])) x []
      by-stand x low (yes e) = rw (e, open_new, end-new) (is ∙ sym (get_or_at front name [] [] count (sym counted)))
      by-stand x low (no differs) =
          rw (get_or-set_other opens count x at 0 differs, get_or-set_other ends count x end 0 differs)
          (n.stand x (omega (arith, differs)) ∙ sym (get_or-append front (name ∷ []) [] x (omega (arith, differs))))

module _ (s : List ℕ) (at count : ℕ) (opens ends : List ℕ) (n : Noting s at count opens ends) where
  -- all are noted, where no line is left
  all_noted : length (headings_of (lines_of s)) ≤ 341 → headings_of (lines_from [] (drop at s)) ≡ [] → AllNoted s opens ends count
  all_noted few none =
      let same_names : headings_of (lines_of s) ≡ n.front = n.all ∙ ap (◌++◌ n.front) none ∙ append-nil n.front in
      record {
        all = n.counted ∙ ap length (sym same_names);
        few = omega (arith, n.counted, ap length same_names);
        noted = rw same_names n.noted;
      }

  pub noted-past : length (headings_of (lines_of s)) ≤ 341 → length s ≤ at → AllNoted s opens ends count
  unfolding headings_of
  noted-past few past = all_noted few (ap headings_of (lines_past s at past))

  pub noted-cut : length (headings_of (lines_of s)) ≤ 341 → at < length s → length s ≤ end_of s at → AllNoted s opens ends count
  unfolding headings_of
  noted-cut few some over = all_noted few (ap headings_of (line-cut-at s at some over))

  module _ (few : length (headings_of (lines_of s)) ≤ 341) (inside : end_of s at < length s) where
    abbrev here : Line
    here = line_of (bytes_of s at (end_of s at))

    abbrev rest : List Line
    rest = lines_from [] (drop (end_of s at + 1) s)

    all_here : headings_of (lines_of s) ≡ n.front ++ headings_of (here ∷ rest)
    all_here = n.all ∙ ap (λ l. n.front ++ headings_of l) (line-at s at inside)

    room_for : (line : Line) → headings_of (lines_of s) ≡ n.front ++ headings_of (line ∷ rest) → RoomToNote line count
    unfolding headings_of
    room_for (heading name) is = omega (arith, n.counted, ap length is, length-append n.front (name ∷ headings_of rest))
    room_for (broader name) is = tt
    room_for (narrower name) is = tt
    room_for other is = tt

    -- there is room for what the line says
    pub noting_room : RoomToNote here count
    noting_room = room_for here all_here

    module _ (after : ℕ) (opens' ends' : List ℕ) where
      noted-on : (line : Line) → headings_of (lines_of s) ≡ n.front ++ headings_of (line ∷ rest) → here ≡ line
          → LineNoted line at (end_of s at) count after opens opens' ends ends' → Noting s (end_of s at + 1) after opens' ends'
      unfolding headings_of
      noted-on (heading name) is e l =
          let room = room_for (heading name) is in
          let own = line-name (bytes_of s at (end_of s at)) name e in
          let more = one_more s n.front name count at (end_of s at) opens ends n.noted n.counted room n.opens_long n.ends_long (omega arith) own in
          record {
            front = n.front ++ (name ∷ []);
            all = is ∙ sym (append_assoc n.front (name ∷ []) (headings_of rest));
            counted = l.counted ∙ omega (arith, n.counted, length-append n.front (name ∷ []));
            noted = rw (l.counted, l.opened, l.ended) more;
            opens_long = rw l.opened (length-set opens count at ∙ n.opens_long);
            ends_long = rw l.ended (length-set ends count (end_of s at) ∙ n.ends_long);
          }
      noted-on (broader name) is e l = rw (l.counted, l.opened, l.ended) (record {
        front = n.front;
        all = is;
        counted = n.counted;
        noted = n.noted;
        opens_long = n.opens_long;
        ends_long = n.ends_long;
      })
      noted-on (narrower name) is e l = rw (l.counted, l.opened, l.ended) (record {
        front = n.front;
        all = is;
        counted = n.counted;
        noted = n.noted;
        opens_long = n.opens_long;
        ends_long = n.ends_long;
      })
      noted-on other is e l = rw (l.counted, l.opened, l.ended) (record {
        front = n.front;
        all = is;
        counted = n.counted;
        noted = n.noted;
        opens_long = n.opens_long;
        ends_long = n.ends_long;
      })

      -- THE LINE IS NOTED, and the pass goes on behind it.
      pub noting_on : LineNoted here at (end_of s at) count after opens opens' ends ends' → Noting s (end_of s at + 1) after opens' ends'
      noting_on l = noted-on here all_here refl l
