-- AN ATTEMPT is the plain machine's turn from the nodes that following leaves: on them the plain walk finds what the walk found that left them.
use mathlib.Core.Bool.{Bool, true, false}
use mathlib.Core.Path.{◌≡◌, refl, sym, ap, subst, ◌∙◌}
use mathlib.Core.List.{List, map}
use Prim.Native.Nat.{ℕ, ◌<◌}
use native.Mathlib.Omega.{arith}
use borrow.Author.Tests.{lt-ltb, le-ltb}
use lib.Dec.{ltb}
use lib.ListN.{length, get_or}
use Rattle.limits.specs.declared.Side.TheVariants.{Open}
use Rattle.book.specs.Rules.{Book}
use Rattle.nodes.specs.Nodes.{Node, apply, choice, fail, forward, Heap, at}
use Rattle.nodes.specs.Forwards.{follow}
use Rattle.machine.specs.Answers as PlainAnswers
use Rattle.machine.specs.Answers.{Answer as PlainAnswer}
use Rattle.machine.specs.Walk as PlainWalk
use Rattle.machine.specs.Turn as Plain
use Rattle.machine.specs.Turn.{Rooms}
use Rattle.rewriting.proofs.Steers.{Steerable}
use Rattle.rewriting.specs.Heaps.{InRange, NoForward}
use Rattle.rewriting.specs.Paths.{Finite}
use Rattle.meaning.proofs.Follows.{follow-leads, follow-ends, leads-followed}
use Rattle.meaning.proofs.PathsEnd.{leads-finite}
use Rattle.forwards.specs.Shorten.{Following, untouched}
use Rattle.alike.specs.Asked as Asked
use Rattle.alike.specs.Asked.{Entry, Answer}
use Rattle.alike.specs.Walking.{Walked, walk}
use Rattle.alike.specs.Turning as Later
use Rattle.alike.specs.Turning.{State, Turned, with_nodes}
use Rattle.alike.specs.AsWithRoom.{plainly}
use Rattle.alike.specs.AsPlain.{Shortcut, plain_entry, forgotten}
use Rattle.alike.proofs.Shortcuts.{unchanged, ◌further◌, Harmless, untouched_harmless}
use Rattle.alike.proofs.Shorts.{Itself, Same, leads-inside, alike_itself, found-same}
use Rattle.alike.proofs.Walks.{Goes, walk_alike}
use Rattle.alike.proofs.Untouched.{walk_same}
use Rattle.alike.proofs.Instance.{Forgets, with_bytes, told, gone_forgets, split_forgets, done_forgets}

-- the plain machine's answer room, in which its records have room where those of a row have
answer_room : (row : Bool) (room : Rooms) (answers : List Answer) (answers₀ : List PlainAnswer)
    → (b : ℕ) × (ltb room.bytes (length (Asked.answer_bytes row answers)) ≡ ltb b (length (PlainAnswers.answer_bytes answers₀)))
unfolding PlainAnswers.answer_bytes
answer_room row room answers answers₀ = by (ltb room.bytes (length (Asked.answer_bytes row answers)))
  where
    many : ℕ
    many = length (PlainAnswers.answer_bytes answers₀)

    some_bytes : 0 < many
    some_bytes = omega arith

    by : (t : Bool) → (b : ℕ) × (t ≡ ltb b many)
    by true = (0, sym (lt-ltb 0 many some_bytes))
    by false = (many, sym (le-ltb many many (omega arith)))

module _ (leaves : Following) (harmless : Harmless leaves) (B : Book) (row : Bool) (room : Rooms) (s : State) (e : Entry) (rest : List Entry)
    (range : InRange s.heap) (steerable : Steerable B s.heap) (inside : e.root < length s.heap) (ends : Finite s.heap e.root) where
  abbrev h : Heap
  h = s.heap

  abbrev n : ℕ
  n = follow h e.root

  -- what the attempt comes to is what the plain machine's turn comes to, from these nodes and with answer room of its own
  pub record FromThere (y : Turned) : Type 0 where
    pub nodes : Heap
    pub short : Shortcut h nodes
    pub bytes : ℕ
    pub forgets : Forgets (with_nodes s nodes) y
        (Plain.turn B (with_bytes room bytes) (forgotten (with_nodes s nodes)) (plain_entry e) (map plain_entry rest))

  still : NoForward (at h n)
  still = follow-ends ends

  self : Itself h n n
  self = (refl, leads-inside range unchanged (follow-leads h e.root) inside, still, leads-finite (follow-leads h e.root) ends)

  -- the plain machine's turn from such nodes is about the same node
  turn-there : (b : ℕ) (g : Heap) → Shortcut h g
      → Plain.turn B (with_bytes room b) (forgotten (with_nodes s g)) (plain_entry e) (map plain_entry rest)
      ≡ Plain.turn_at B (with_bytes room b) (forgotten (with_nodes s g)) (map plain_entry rest) (plain_entry e) n (at h n)
  unfolding Plain.turn with_nodes
  turn-there b g short =
      let end : NoForward (at g n) = rw (short.others n still) still in
      let same : follow g e.root ≡ n = leads-followed (short.leads (follow-leads h e.root) still) end in
      ap (λ k. Plain.turn_at B (with_bytes room b) (forgotten (with_nodes s g)) (map plain_entry rest) (plain_entry e) k (at g k)) same
      ∙ ap (λ y. Plain.turn_at B (with_bytes room b) (forgotten (with_nodes s g)) (map plain_entry rest) (plain_entry e) n y) (short.others n still)

  -- the nodes after the root's forwards have been followed
  abbrev g₁ : Heap
  g₁ = leaves h e.root

  first : Shortcut h g₁
  first = harmless h e.root n (follow-leads h e.root) still

  -- the walk leaves such nodes
  abbrev w : Walked
  w = walk leaves B n g₁

  walks : Goes (Itself h) Same h g₁ (PlainWalk.walk B h n) w
  walks = walk_alike (Itself h) Same h leaves harmless B steerable n n g₁ (alike_itself range first) self

  pub walked-short : Shortcut h w.nodes
  walked-short = ◌further◌ first walks.short

  -- and finds what the plain walk finds, of the nodes before it
  pub walked-found : PlainWalk.walk B h n ≡ w.found
  walked-found = found-same walked-short walks.found

  -- and of those that it leaves
  found-there : w.found ≡ PlainWalk.walk B w.nodes n
  found-there =
      let again = walk_alike (Itself h) Same h untouched untouched_harmless B steerable n n w.nodes (alike_itself range walked-short) self in
      sym walked-found ∙ found-same (◌further◌ walked-short again.short) again.found ∙ ap (λ (v : Walked). v.found) (walk_same B n w.nodes)

  -- by what stands at the node that the root leads to
  there : (y : Node) → at h n ≡ y → FromThere (Later.turn_at leaves B row room (with_nodes s g₁) rest e n y)
  unfolding Later.turn_at Plain.turn_at with_nodes
  there fail is = record {
    nodes = g₁;
    short = first;
    bytes = room.bytes;
    forgets = rw (turn-there room.bytes g₁ first, is) (gone_forgets leaves B row room room.bytes (with_nodes s g₁) e rest);
  }
  there (forward m) is = record {
    nodes = g₁;
    short = first;
    bytes = room.bytes;
    forgets = rw (turn-there room.bytes g₁ first, is) (gone_forgets leaves B row room room.bytes (with_nodes s g₁) e rest);
  }
  there (choice i l r) is = record {
    nodes = g₁;
    short = first;
    bytes = room.bytes;
    forgets = rw (turn-there room.bytes g₁ first, is)
        (split_forgets leaves B row room room.bytes (with_nodes s g₁) e rest i l r e.decisions (get_or e.decisions i Open));
  }
  there (apply f xs) is =
      let u = with_nodes s w.nodes in
      let (b, test) = answer_room row room (told u e n) (map plainly (told u e n)) in
      record {
        nodes = w.nodes;
        short = walked-short;
        bytes = b;
        forgets = rw (turn-there b w.nodes walked-short, is, ← found-there) (done_forgets leaves B row room b u e rest n w.found test);
      }

  -- AN ATTEMPT
  pub attempt-there : FromThere (Later.attempt leaves B row room s e rest)
  unfolding Later.attempt with_nodes
  attempt-there =
      subst (λ (y : Node). FromThere (Later.turn_at leaves B row room (with_nodes s g₁) rest e n y)) (sym (first.others n still)) (there (at h n) refl)
