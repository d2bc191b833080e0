-- `commit::commit_oldest` meets its contract.
use mathlib.Core.Path.{refl}
use native.Mathlib.Omega.{arith}
use Rattle.places.proofs.Found.{place-found, place-inside, place-none}
use Rattle.commit.proofs.Recording.{nothing-to-commit, not_yet, lamp-whole, kind-whole, stock-whole, commits}
use Rattle.gateway.proofs.Knowing.{sizes}
use Rattle.commit.proofs.commit_oldest.Goals as goal

pub next_marked-requires : goal.next_marked-requires
next_marked-requires c = let z = sizes _ _ c.requires in (omega arith, omega arith)

pub returns-in_default : goal.returns-in_default
returns-in_default c =
    nothing-to-commit _ _ c.requires _ refl _ (place-none _ _ c.in_default.ensures)

pub overflow_mul-k : goal.overflow_mul-k
overflow_mul-k c =
    let z = sizes _ _ c.requires in let b = place-inside _ _ c.in-Some.ensures in
    omega arith

pub overflow_add-k : goal.overflow_add-k
overflow_add-k c =
    let z = sizes _ _ c.requires in let b = place-inside _ _ c.in-Some.ensures in
    omega arith

pub read_entry-entry-requires : goal.read_entry-entry-requires
read_entry-entry-requires c =
    let z = sizes _ _ c.requires in let b = place-inside _ _ c.in-Some.ensures in
    omega arith

pub returns-then-header-message : goal.returns-then-header-message
returns-then-header-message c =
    not_yet _ _ c.requires _ (place-found _ _ c.in-Some.ensures) (place-inside _ _ c.in-Some.ensures) _ c.read_entry-entry.ensures _
    c.if-header-message.true

pub commit_place-requires : goal.commit_place-requires
commit_place-requires c = (
  c.requires,
  place-inside _ _ c.in-Some.ensures,
  lamp-whole _ _ c.requires _
      (place-found _ _ c.in-Some.ensures) (place-inside _ _ c.in-Some.ensures) _ c.read_entry-entry.ensures,
  kind-whole _ _ c.requires _ (place-found _ _ c.in-Some.ensures) (place-inside _ _ c.in-Some.ensures) _ c.read_entry-entry.ensures,
  stock-whole _ _ c.requires _ (place-found _ _ c.in-Some.ensures) (place-inside _ _ c.in-Some.ensures) _ c.read_entry-entry.ensures,
)

pub returns : goal.returns
returns c =
    commits _ _ c.requires _ (place-found _ _ c.in-Some.ensures) (place-inside _ _ c.in-Some.ensures) _ c.read_entry-entry.ensures
    c.args.output.now c.if-header-message.false c.commit_place.ensures
