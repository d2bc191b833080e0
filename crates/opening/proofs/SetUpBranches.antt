-- Set up: a law for each branch of the call.
use mathlib.Core.Path.{◌≡◌, sym, ◌∙◌, ap}
use mathlib.Core.Bool.{Bool, true, false, cond, not}
use mathlib.Core.List.{List, [], ◌∷◌}
use Rattle.std.specs.Prelude.{Err}
use Rattle.refusal.specs.Numbers.{refusal_number}
use Rattle.refusal.specs.declared.Refusal.{Refusal}
use Rattle.refusal.specs.declared.Refusal.TheVariants.{NoRoom, OutOfRange}
use Prim.Native.Nat.{ℕ, ◌+◌, ◌*◌, ◌≤◌, ◌<◌}
use native.Mathlib.Omega.{arith}
use lib.Dec.{eqb}
use lib.ListN.{length}
use borrow.Author.Tests.{leb-true, le-leb, lt-leb, eq-eqb, ne_eqb, not-true, not-false}
use Rattle.lists.specs.Lists.{joined}
use Rattle.buffer.specs.Slice.{Bytes, write}
use Rattle.buffer.proofs.Writes.{write-nil}
use Rattle.memory.specs.Layout.{header_size, outstanding_at, size_for, outstanding_size, queue_size, queue_at}
use Rattle.memory.specs.Records.{header_of}
use Rattle.memory.specs.Codec.{entry_bytes, header_front, header_back, encode}
use Rattle.memory.specs.Inside.Fits.{GatewayFits, Room}
use Rattle.memory.specs.Validity.{settings_valid}
use Rattle.memory.specs.declared.Header.{Header}
use Rattle.memory.specs.declared.Settings.{Settings}
use Rattle.memory.proofs.Validated.{settings-facts, valid-facts}
use Rattle.lists.proofs.BoolLaws.{and_left, and_right}
use Rattle.memory.proofs.Fitting.{valid-fits}
use Rattle.memory.proofs.Holding.{encode-by}
use Rattle.gateway.specs.SettingUp.{may_open, settings_of, opening_valid, cut_frames, opening_refusal, first_refusal, queued, opened, set_up_refusal}
use Rattle.gateway.specs.Calls.{left, set_up}
use Rattle.gateway.specs.Answers.{answer_of}
use Rattle.gateway.proofs.Dispatching.{refusal-numbered}
use Rattle.gateway.specs.declared.Opening.{Opening}
use Rattle.gateway.proofs.Openings.{length-queued, opened-keeps}
use Rattle.refusal.proofs.Numbers.{refusal-some}
use Rattle.opening_list.specs.Inside.Frames.{Checked, frames_from, checked_as, opened_header}
use Rattle.lists.proofs.PieceLaws.{none-refused}
use Rattle.opening_list.proofs.Checking.{frames-all}

-- what valid settings say
pub record ValidOpening (o : Opening) (size : ℕ) : Type 0 where
  pub settings : settings_valid (settings_of o) ≡ true
  pub stock : o.stock ≤ 65535
  pub q : o.q ≤ 512
  pub long : header_size + queue_size * o.q + outstanding_size * o.u ≤ size

valid-opening : (o : Opening) (size : ℕ) → opening_valid o size ≡ true → ValidOpening o size
unfolding opening_valid
valid-opening o size v =
    let s : settings_valid (settings_of o) ≡ true = search (and_left, and_right) in
    record {
      settings = s;
      stock = leb-true o.stock 65535 (search (and_left, and_right));
      q = (settings-facts (settings_of o) s).q;
      long = leb-true (size_for o.q o.u) size (search (and_left, and_right));
    }

module _ (o : Opening) (list m : List ℕ) where
  refused_as : (why : Refusal) → set_up_refusal o (length m) list ≡ refusal_number why → left (answer_of (Err why)) m [] ≡ set_up o list m
  unfolding set_up
  refused_as why p = rw (p, refusal-numbered why)

  module _ {valid : Bool} (e : valid ≡ opening_valid o (length m)) where
    pub not_valid : not valid ≡ true → left (answer_of (Err OutOfRange)) m [] ≡ set_up o list m
    unfolding set_up_refusal
    not_valid h = refused_as OutOfRange (rw (sym e ∙ not-true valid h))

    module _ (h : not valid ≡ false) where
      is-valid : opening_valid o (length m) ≡ true
      is-valid = sym e ∙ not-false valid h

      pub valid-settings : ValidOpening o (length m)
      valid-settings = valid-opening o (length m) is-valid

      module _ {s : Settings} (t : s ≡ settings_of o) {r : Checked} (k : r ≡ checked_as s (frames_from list 0)) where
        first-is : r.number ≡ first_refusal (settings_of o) (cut_frames (length list) list)
        first-is = ap (λ (x : Checked). x.number) k ∙ rw (t, frames-all list)

        pub frame_refused : (why : Refusal) → refusal_number why ≡ r.number → left (answer_of (Err why)) m [] ≡ set_up o list m
        unfolding set_up_refusal
        frame_refused why n =
            let d : r.number ≡ 0 → ⊥ = λ z. refusal-some why (n ∙ z) in
            refused_as why (rw (is-valid, ← first-is, ne_eqb r.number 0 d) (sym n))

        module _ (z : r.number ≡ 0) where
          count-is : r.count ≡ length (cut_frames (length list) list)
          count-is =
              ap (λ (x : Checked). x.count) k
              ∙ ap length (none-refused (opening_refusal s) (frames_from list 0) (sym (ap (λ (x : Checked). x.number) k) ∙ z))
              ∙ rw (frames-all list)

          none_is : eqb (first_refusal (settings_of o) (cut_frames (length list) list)) 0 ≡ true
          none_is = eq-eqb _ 0 (sym first-is ∙ z)

          pub too_many : s.q < r.count → left (answer_of (Err NoRoom)) m [] ≡ set_up o list m
          unfolding set_up_refusal
          too_many f =
              let more : o.q < length (cut_frames (length list) list) = rw (← count-is) (rw t at f) in
              refused_as NoRoom (rw (is-valid, none_is, lt-leb (length (cut_frames (length list) list)) o.q more))

          module _ (f : r.count ≤ s.q) where
            enough : length (cut_frames (length list) list) ≤ o.q
            enough = rw (← count-is) (rw t at f)

            accepted : set_up_refusal o (length m) list ≡ 0
            unfolding set_up_refusal
            accepted = rw (is-valid, none_is, le-leb (length (cut_frames (length list) list)) o.q enough)

            pub list-room : queue_at (length (frames_from list 0)) ≤ length m
            list-room = rw (frames-all list) (omega (arith, enough, valid-settings.long))

            pub few-enough : r.count ≤ 512
            few-enough = omega (arith, enough, count-is, valid-settings.q)

            room : Room (opened o (cut_frames (length list) list)) m
            unfolding opened
            room = record {
              long = valid-settings.long;
              queued = rw (length-queued [] (cut_frames (length list) list)) (omega (
                arith,
                enough,
              ));
              sent = omega arith;
            }

            fits : Bytes list → GatewayFits (opened o (cut_frames (length list) list))
            fits bytes =
                let kept = opened-keeps o (length m) list bytes accepted in
                valid-fits (opened o (cut_frames (length list) list)) (valid-facts (opened o (cut_frames (length list) list))
                kept.proper.valid) kept.proper.ranged

            header_is : opened_header o r.count ≡ header_of (opened o (cut_frames (length list) list))
            unfolding opened
            header_is = rw (length-queued [] (cut_frames (length list) list), count-is) (ap (opened_header o) (omega arith))

            pub set-up-done : Bytes list → {a b : List ℕ} {header : Header} → a ≡ write header_size (joined entry_bytes (queued [] (frames_from list 0))) m
                → header ≡ opened_header o r.count → b ≡ write 6 (header_back header) (write 0 (header_front header) a)
                → record { answer = record { number = 0; written = 0 }; memory = b; output = [] } ≡ set_up o list m
            unfolding set_up opened joined
            set-up-done bytes {a} {b} {header} p q w =
                let g = opened o (cut_frames (length list) list) in
                let same : a ≡ write header_size (joined entry_bytes g.queue) m = p ∙ rw (frames-all list) in
                let all = encode-by g m (fits bytes) room (sym same) (write-nil (outstanding_at o.q 0) a) in
                let memory : b ≡ encode g m = w ∙ rw (q, header_is) (sym all) in
                rw accepted (λ i. record { answer = record { number = 0; written = 0 }; memory = memory i; output = [] })
