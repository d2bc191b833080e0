-- The stocks after each call: none, held or saved, comes with the Restocks still to be done from it to more than a stock can.
use mathlib.Core.Path.{◌≡◌, refl, sym, ◌∙◌, ap}
use mathlib.Core.Bool.{Bool, true, false, cond, true≢false}
use mathlib.Core.Logic.{⊎_elim}
use mathlib.Core.List.Memᴰ
use mathlib.Core.List.Memᴰ.{head as here}
use mathlib.Core.List.Memᴰ.{tail as there}
use mathlib.Core.List.{List, [], ◌∷◌, ◌++◌, map, append_assoc}
use mathlib.Core.List.Sublistᴰ.{cons as leave}
use mathlib.Core.List.Sublistᴰ.{cons-cons as keep}
use mathlib.Core.List.Sublistᴰ.{slnil as neither}
use mathlib.Core.List.{Sublistᴰ}
use Prim.Native.Nat.{ℕ, ◌+◌, ◌≤◌}
use native.Mathlib.Omega.{arith}
use lib.ListN.{length}
use Rattle.lists.specs.Lists.{◌∈◌, Ascending, tally, tail_of}
use Rattle.lists.proofs.Ascents.{part-tally}
use Rattle.lists.proofs.SearchLaws.{part-tail, part-behind}
use Rattle.lists.proofs.ListLaws.{tally-append, tally-map, tally-less, tally-most, tally-same, tally-agree}
use Rattle.model.specs.Messages.{quantity_of}
use Rattle.model.specs.Doing.{most_stock, after}
use Rattle.model.proofs.KindNumbers.{no-restock}
use Rattle.model.proofs.Replies.{after_less}
use Rattle.model.specs.declared.Message.{Message}
use Rattle.model.specs.declared.State.{State}
use Rattle.frame.specs.Writing.{well_formed}
use Rattle.memory.specs.Validity.{pending_mark, processed_mark, waiting_mark, is_pending, is_processed, frame_if, brings, still_brings}
use Rattle.memory.specs.declared.Settings.{Settings}
use Rattle.memory.specs.declared.Entry.{Entry}
use Rattle.memory.specs.declared.Mark.{Mark}
use Rattle.memory.specs.declared.Mark.TheVariants.{Pending, Processed, Waiting}
use Rattle.memory.proofs.Validated.{MayStand, Saved, no_more, and-more, Stocks, first_of, rest_of, still-less, valid-facts}
use Rattle.memory.proofs.SoundMemory.{codec-laws}
use Rattle.memory.specs.Codec.{decode}
use Rattle.gateway.specs.Undoing.{processed_of, pending_entry, undone, restored}
use Rattle.gateway.specs.Working.{pending_of, processed_next}
use Rattle.gateway.specs.Claims.{SoundBytes, NoStockWraps}
use Rattle.gateway.proofs.Accepting.{cancel-kind}
use Rattle.gateway.proofs.Maintaining.{GoodEntry}
use Rattle.gateway.proofs.Queues.{GoodQueue, undone-is}

-- what an entry that is not pending is still to bring
no_longer : (e : Entry) → is_pending e ≡ false → still_brings e ≡ 0
no_longer e h = ap (λ (b : Bool). cond b (brings e) 0) h

-- an entry that is not processed is still to bring all that it brings: no cancel of a Restock is stored
all-still : {s : Settings} (e : Entry) → GoodEntry s e → is_processed e ≡ false → brings e ≡ still_brings e
all-still e good = by-mark e.mark good.valid.message.form
  where
    by-mark : (k : Mark) → well_formed (frame_if (waiting_mark k) e.message) ≡ true → processed_mark k ≡ false → brings e ≡ cond (pending_mark k) (brings e) 0
    by-mark Pending form h = refl
    by-mark Processed form h = absurd (true≢false h)
    by-mark Waiting form h = no-restock e.message.kind (cancel-kind e.message form)

-- with some entries left out
kept-first : (x y : Entry) (xs ys : List Entry) → x ≡ y → tally brings xs ≤ tally brings ys
    → (is_processed y ≡ true → y.before.stock + tally brings (y ∷ ys) ≤ most_stock) → is_processed x ≡ true → x.before.stock + tally brings (x ∷ xs) ≤ most_stock
unfolding tally
kept-first x y xs ys e l f h = let g = f (sym (ap is_processed e) ∙ h) in rw e (omega (arith, g, l))

saved-part : {fs es : List Entry} → Sublistᴰ fs es → Saved es → Saved fs
saved-part neither k = no_more
saved-part (leave p) (and-more f k) = saved-part p k
saved-part (keep e p) (and-more {e = y} {es = ys} f k) = and-more (kept-first _ y _ ys e (part-tally brings p) f) (saved-part p k)

pub stocks-part : {state : State} {fs es : List Entry} → Sublistᴰ fs es → Stocks state es → Stocks state fs
stocks-part p k = record { held = omega (arith, part-tally still_brings p, k.held); saved = saved-part p k.saved }

-- with an entry put in that is not processed and brings nothing
module _ (x : Entry) (idle : is_processed x ≡ false) (nothing : brings x ≡ 0) where
  same_total : (us vs : List Entry) → tally brings (us ++ (x ∷ vs)) ≡ tally brings (us ++ vs)
  unfolding tally
  same_total us vs = omega (arith, tally-append brings us (x ∷ vs), tally-append brings us vs, nothing)

  enters-saved : (us vs : List Entry) → Saved (us ++ vs) → Saved (us ++ (x ∷ vs))
  unfolding tally
  enters-saved [] vs k = and-more (λ h. absurd (true≢false (sym h ∙ idle))) k
  enters-saved (u ∷ us) vs (and-more f k) = and-more {e = u} {es = us ++ (x ∷ vs)} (λ h. omega (arith, f h, same_total us vs)) (enters-saved us vs k)

  pub stocks-enter : {state : State} (us vs : List Entry) → Stocks state (us ++ vs) → Stocks state (us ++ (x ∷ vs))
  unfolding tally
  stocks-enter us vs k =
      record {
        held = omega (
          arith,
          tally-append still_brings us (x ∷ vs),
          tally-append still_brings us vs,
          still-less x,
          nothing,
          k.held,
        );
        saved = enters-saved us vs k.saved;
      }

-- undoing: an entry brings as much as before, and no less is still to come from it
undone-brings : (e : Entry) → brings (undone e) ≡ brings e
undone-brings e = ap (λ (m : Message). quantity_of m.kind) (undone-is e).message

undone-more : (e : Entry) → still_brings e ≤ still_brings (undone e)
unfolding undone
undone-more e = by-case (is_processed e)
  where
    by-case : (b : Bool) → still_brings e ≤ still_brings (cond b (pending_entry e.message) e)
    by-case true = still-less e
    by-case false = omega arith

undone-less : (e : Entry) → still_brings (undone e) ≤ brings e
undone-less e = omega (arith, still-less (undone e), undone-brings e)

undone-total : (us vs : List Entry) → tally brings (us ++ map undone vs) ≡ tally brings (us ++ vs)
undone-total us vs =
    omega (
      arith,
      tally-append brings us (map undone vs),
      tally-append brings us vs,
      tally-map brings undone vs,
      tally-agree (λ (e : Entry). brings (undone e)) brings vs undone-brings,
    )

undone-saved : (us vs : List Entry) → Saved (us ++ vs) → Saved (us ++ map undone vs)
unfolding tally
undone-saved [] [] k = no_more
undone-saved [] (v ∷ vs) (and-more f k) = and-more (λ h. absurd (true≢false (sym h ∙ (undone-is v).processed))) (undone-saved [] vs k)
undone-saved (u ∷ us) vs (and-more f k) = and-more {e = u} {es = us ++ map undone vs} (λ h. omega (arith, f h, undone-total us vs)) (undone-saved us vs k)

saved-behind : (us : List Entry) {vs : List Entry} → Saved (us ++ vs) → Saved vs
saved-behind [] k = k
saved-behind (u ∷ us) (and-more f k) = saved-behind us k

-- nothing is still to come from what stands before a processed entry
none-still : (us : List Entry) (v : Entry) (vs : List Entry) → Ascending MayStand (us ++ (v ∷ vs)) → is_processed v ≡ true → tally still_brings us ≡ 0
unfolding tally
none-still [] v vs a h = refl
none-still (u ∷ us) v vs a h = omega (arith, no_longer u (by-case (is_pending u) refl), none-still us v vs (rest_of a) h)
  where
    by-case : (b : Bool) → is_pending u ≡ b → b ≡ false
    by-case true p = absurd (true≢false (sym h ∙ (first_of a v (Memᴰ.append_right us (here refl))).marks p))
    by-case false p = refl

module _ (state : State) where
  -- the state restored, and all that is pending then
  undone-held : (us vs : List Entry) → Ascending MayStand (us ++ vs) → Stocks state (us ++ vs)
      → (restored state (processed_of vs)).stock + (tally still_brings us + tally still_brings (map undone vs)) ≤ most_stock
  unfolding restored processed_of undone tally
  undone-held us [] a k = omega (arith, tally-append still_brings us [], k.held)
  undone-held us (v ∷ vs) a k =
      by-case (is_processed v) refl
      (undone-held (us ++ (v ∷ [])) vs (rw (append_assoc us (v ∷ []) vs) a) (rw (append_assoc us (v ∷ []) vs) k))
    where
      from-here : Saved (v ∷ vs) → is_processed v ≡ true → v.before.stock + tally brings (v ∷ vs) ≤ most_stock
      from-here (and-more f s) = f

      by-case : (b : Bool) → is_processed v ≡ b
          → (restored state (processed_of vs)).stock + (tally still_brings (us ++ (v ∷ [])) + tally still_brings (map undone vs)) ≤ most_stock
          → (restored state (cond b (v ∷ processed_of vs) (processed_of vs))).stock + (tally still_brings us + (still_brings (undone v) + tally still_brings (map undone vs))) ≤ most_stock
      by-case true h rest =
          omega (
            arith,
            from-here (saved-behind us k.saved) h,
            none-still us v vs a h,
            undone-less v,
            tally-map still_brings undone vs,
            tally-less (λ (e : Entry). still_brings (undone e)) brings vs (λ e m. undone-less e),
          )
      by-case false h rest =
          omega (arith, rest, tally-append still_brings us (v ∷ []), ap (λ (b : Bool). still_brings (cond b (pending_entry v.message) v)) h)

  module _ (us vs : List Entry) (a : Ascending MayStand (us ++ vs)) (k : Stocks state (us ++ vs)) where
    pub stocks-undone : Stocks (restored state (processed_of vs)) (us ++ map undone vs)
    stocks-undone = record { held = omega (arith, undone-held us vs a k, tally-append still_brings us (map undone vs)); saved = undone-saved us vs k.saved }

    -- and while the queue is still as it was
    pub stocks-restored : Stocks (restored state (processed_of vs)) (us ++ vs)
    stocks-restored =
        record {
          held = omega (
            arith,
            undone-held us vs a k,
            tally-append still_brings us vs,
            tally-map still_brings undone vs,
            tally-less still_brings (λ (e : Entry). still_brings (undone e)) vs (λ e m. undone-more e),
          );
          saved = k.saved;
        }

-- without the first of those undone
pub undone-tail : (us vs : List Entry) → Sublistᴰ (us ++ map undone (tail_of vs)) (us ++ map undone vs)
undone-tail us [] = part-behind us (part-tail [])
undone-tail us (v ∷ vs) = part-behind us (part-tail (undone v ∷ map undone vs))

-- one event done
-- what the first of some messages brings
abbrev first_brings : List Message → ℕ
first_brings [] = 0
first_brings (m ∷ ms) = quantity_of m.kind

module _ (before : State) where
  next-still : (es : List Entry) → tally still_brings (processed_next before es) + first_brings (pending_of es) ≡ tally still_brings es
  unfolding processed_next pending_of tally
  next-still [] = refl
  next-still (e ∷ es) = by-case (is_pending e) refl (next-still es)
    where
      by-case : (b : Bool) → is_pending e ≡ b → tally still_brings (processed_next before es) + first_brings (pending_of es) ≡ tally still_brings es
          → tally still_brings (cond b (record { message = e.message; mark = Processed; before = before } ∷ es) (e ∷ processed_next before es)) + first_brings (cond b (e.message ∷ pending_of es) (pending_of es))
          ≡ still_brings e + tally still_brings es
      by-case true h rest = omega (arith, ap (λ (b : Bool). cond b (brings e) 0) h)
      by-case false h rest = omega (arith, rest)

  next-brings : (es : List Entry) → tally brings (processed_next before es) ≡ tally brings es
  unfolding processed_next tally
  next-brings [] = refl
  next-brings (e ∷ es) = by-case (is_pending e) (next-brings es)
    where
      by-case : (b : Bool) → tally brings (processed_next before es) ≡ tally brings es
          → tally brings (cond b (record { message = e.message; mark = Processed; before = before } ∷ es) (e ∷ processed_next before es)) ≡ brings e + tally brings es
      by-case true rest = refl
      by-case false rest = omega (arith, rest)

  next-saved : {s : Settings} (es : List Entry) → ((e : Entry) → e ∈ es → GoodEntry s e) → Ascending MayStand es → Stocks before es → Saved (processed_next before es)
  unfolding processed_next tally
  next-saved [] good a k = no_more
  next-saved (e ∷ es) good a k =
      by-case (is_pending e) refl k.saved
      (λ h l. next-saved es (λ x m. good x (there m)) (rest_of a) (record { held = h; saved = l }))
    where
      by-case : (b : Bool) → is_pending e ≡ b → Saved (e ∷ es) → (before.stock + tally still_brings es ≤ most_stock → Saved es → Saved (processed_next before es))
          → Saved (cond b (record { message = e.message; mark = Processed; before = before } ∷ es) (e ∷ processed_next before es))
      by-case true h (and-more f l) rest =
          and-more {e = record { message = e.message; mark = Processed; before = before }} {es = es}
          (λ p. omega (
            arith,
            k.held,
            ap (λ (b : Bool). cond b (brings e) 0) h,
            tally-same brings still_brings es (λ x m. all-still x (good x (there m)) ((first_of a x m).marks h)),
          ))
          l
      by-case false h (and-more f l) rest = and-more {e = e} {es = processed_next before es} (λ p. omega (arith, f p, next-brings es)) (rest (omega (arith, k.held)) l)

  -- the event's state is saved, and then its own is held
  module _ (es : List Entry) (k : Stocks before es) where
    pub stocks-next : {s : Settings} → GoodQueue s es → Stocks before (processed_next before es)
    stocks-next q = record { held = omega (arith, next-still es, k.held); saved = next-saved es q.entries q.order k }

    module _ (m : Message) {ms : List Message} (first : pending_of es ≡ m ∷ ms) where
      next-brought : tally still_brings (processed_next before es) + quantity_of m.kind ≡ tally still_brings es
      next-brought = rw first at (next-still es)

      pub stock-enough : before.stock + quantity_of m.kind ≤ most_stock
      stock-enough = omega (arith, next-brought, k.held)

      pub stocks-done : {s : Settings} → GoodQueue s es → Stocks (after before m.kind) (processed_next before es)
      stocks-done q = record { held = omega (arith, after_less before m.kind, next-brought, k.held); saved = (stocks-next q).saved }

-- an opening queue, in which nothing is processed
none-saved : (es : List Entry) → ((e : Entry) → e ∈ es → is_processed e ≡ false) → Saved es
none-saved [] h = no_more
none-saved (e ∷ es) h = and-more (λ p. absurd (true≢false (sym p ∙ h e (here refl)))) (none-saved es (λ x m. h x (there m)))

pub stocks-open : (state : State) (es : List Entry) → state.stock ≤ 65535 → length es ≤ 512 → ((e : Entry) → e ∈ es → is_processed e ≡ false)
    → ((e : Entry) → e ∈ es → brings e ≤ 65535) → Stocks state es
stocks-open state es stock few none most =
    record {
      held = omega (arith, tally-most still_brings 65535 es (λ e m. omega (arith, still-less e, most e m)));
      saved = none-saved es none;
    }

-- in sound memory no sum wraps
saved-member : {es : List Entry} → Saved es → (e : Entry) → e ∈ es → is_processed e ≡ true → e.before.stock + brings e ≤ most_stock
unfolding tally
saved-member no_more e m h = absurd (Memᴰ.not-nil m)
saved-member (and-more {e = x} f k) e m h =
    ⊎_elim (λ (p : e ≡ x). rw p (omega (arith, f (sym (ap is_processed p) ∙ h)))) (λ n. saved-member k e n h) (Memᴰ.cases_cons m)

stocks-held : (memory : List ℕ) → SoundBytes memory → Stocks (decode memory).state (decode memory).queue
stocks-held memory h = (valid-facts (decode memory) (codec-laws.reading memory h.bytes h.is-sound).valid-held).stocks

pub no-stock-wraps : NoStockWraps
no-stock-wraps =
    record {
      held = λ memory h m ms first. stock-enough (decode memory).state (decode memory).queue (stocks-held memory h) m first;
      saved = λ memory h e n p. saved-member (stocks-held memory h).saved e n p;
    }
