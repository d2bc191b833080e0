-- The walk that writes a view.
use mathlib.Core.Path.{◌≡◌, refl, sym, ◌∙◌, ap}
use mathlib.Core.List.{List, [], ◌∷◌, ◌++◌, append_assoc, append-nil}
use Prim.Native.Nat.{ℕ, ◌+◌, ◌≤◌}
use native.Mathlib.Omega.{arith}
use lib.ListN.{length, length-append}
use Rattle.lists.specs.Lists.{first_number, joined}
use Rattle.lists.proofs.PieceLaws.{first-cons}
use Rattle.lists.proofs.ListLaws.{joined-map}
use Rattle.buffer.specs.Slice.{write, Puts}
use Rattle.buffer.proofs.Writes.{length-write, write-nil, write-join}
use Rattle.records.specs.Events.{cut_events, event_refusal, record_refusal, event_of, events_of}
use Rattle.records.specs.declared.StockField.{StockField}
use Rattle.views.specs.Bytes.{event_view, view}
use Rattle.views.specs.declared.Reader.{Reader}

-- what the reader gets of an event's bytes
abbrev view_of : Reader → StockField → List ℕ → List ℕ
view_of reader field s = event_view reader (event_of field s)

-- the views of the events before stand at the front of the output up to a position, and these events are left, none of which is refused
pub record Written (reader : Reader) (field : StockField) (bytes out now : List ℕ) (left : List (List ℕ)) (position : ℕ) : Type 0 where
  pub none : first_number (event_refusal field) left ≡ 0
  pub done : List ℕ
  pub size : position ≡ length done
  pub output : now ≡ write 0 done out
  pub rest : view reader field bytes ≡ done ++ joined (view_of reader field) left

pub write-start : (reader : Reader) (field : StockField) (bytes out : List ℕ) → record_refusal field bytes ≡ 0 → {left : List (List ℕ)}
    → left ≡ cut_events field bytes → Written reader field bytes out out left 0
unfolding record_refusal view events_of
write-start reader field bytes out z e =
    rw e
    (record {
      none = z;
      done = [];
      size = refl;
      output = sym (write-nil 0 out);
      rest = joined-map (event_view reader) (event_of field) (cut_events field bytes);
    })

module _ (reader : Reader) (field : StockField) (bytes : List ℕ) (out now : List ℕ) (position : ℕ) {left : List (List ℕ)}
    (p : Written reader field bytes out now left position)
  where
    pub write-end : left ≡ [] → now ≡ write 0 (view reader field bytes) out
    unfolding joined
    write-end e = p.output ∙ ap (λ (l : List ℕ). write 0 l out) (sym (p.rest ∙ rw (e, append-nil)))

    module _ {s : List ℕ} {later : List (List ℕ)} (e : left ≡ s ∷ later) where
      both : (event_refusal field s ≡ 0) × (first_number (event_refusal field) later ≡ 0)
      both = first-cons (event_refusal field) s later (rw e at p.none)

      pub next-taken : event_refusal field s ≡ 0
      next-taken = both.0

      view-next : view reader field bytes ≡ (p.done ++ view_of reader field s) ++ joined (view_of reader field) later
      unfolding joined
      view-next = p.rest ∙ rw e (sym (append_assoc p.done (view_of reader field s) (joined (view_of reader field) later)))

      module _ (room : length (view reader field bytes) ≤ length out) where
        fits : position + length (view_of reader field s) ≤ length out
        fits = omega (
          arith,
          ap length view-next,
          length-append (p.done ++ view_of reader field s) (joined (view_of reader field) later),
          length-append p.done (view_of reader field s),
          p.size,
        )

        done-fits : 0 + length p.done ≤ length out
        done-fits = omega (arith, fits, p.size)

        pub next-room : position + length (view_of reader field s) ≤ length now
        next-room = rw (p.output, length-write 0 p.done out done-fits) fits

        pub write-turn : {after : List ℕ} {behind : ℕ} → Puts position (view_of reader field s) now after behind → Written reader field bytes out after later behind
        write-turn {after} {behind} q =
            let v = view_of reader field s in
            let from : position ≡ 0 + length p.done = omega (arith, p.size) in
            record {
              none = both.1;
              done = p.done ++ v;
              size = omega (arith, q.position, p.size, length-append p.done v);
              output = q.output ∙ rw (p.output, from) (write-join 0 p.done v out done-fits);
              rest = view-next;
            }
