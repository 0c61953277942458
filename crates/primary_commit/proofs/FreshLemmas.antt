-- What a peer keeps that has done nothing.
use Rattle.std.proofs.Common.{◌≡◌, ℕ, pos, ◌<◌, ◌≤◌, true, List, [], length, ap, sym, ⊎_elim, arith}
use Rattle.std.proofs.Math.Seq.{take-nil}
use Rattle.std.proofs.lemmas.Bool.{cases_lt}
use Rattle.std.proofs.lemmas.List.{get_or_past}
use Rattle.std.proofs.lemmas.List.Elements.{All-nil}
use Rattle.std.proofs.lemmas.List.FromFn.{get_or-map-range_with_len, length-map-range_with_len}
use Rattle.std.specs.List.{prefix_len}
use Rattle.tact_base.specs.declared.limits.TheConstants.{REPLICAS_MAX}
use Rattle.rollback_apply.specs.Image.{ImageState, base_of}
use Rattle.primary_commit.specs.Kept.{KeepsPeer}
use Rattle.primary_commit.specs.Peers.{fresh_peer, has, log_of}
use Rattle.primary_commit.specs.declared.items.Item.{Item}
use Rattle.primary_commit.specs.declared.items.Pick.{Pick}

abbrev no_picks : List Pick
no_picks = []

abbrev no_items : List Item
no_items = []

module _ (n replica : ℕ) where
  fresh_log : (origin : ℕ) → log_of (fresh_peer n replica) origin ≡ []
  fresh_log origin =
      ⊎_elim (λ within. get_or-map-range_with_len (λ (o : ℕ). no_items) 0 n origin origin no_items within (omega arith))
      (λ past. get_or_past (fresh_peer n replica).logs origin no_items (omega (arith, past, length-map-range_with_len (λ (o : ℕ). no_items) 0 n)))
      (cases_lt origin n)

  pub fresh_keeps : (image : ImageState) → replica < n → n ≤ REPLICAS_MAX → image.committed ≡ 0 → ((key : ℕ) → base_of image key ≡ pos 0) → image.ops ≡ []
      → KeepsPeer (fresh_peer n replica) 0 image
  fresh_keeps image among few counted base none = record {
    is_peer = record {
      among = omega (arith, among, length-map-range_with_len (λ (o : ℕ). no_items) 0 n);
      placed = λ origin index d within. absurd (omega (arith, within, ap length (fresh_log origin)));
    };
    settled = record {
      within = omega arith;
      had = All-nil (λ pick. has (fresh_peer n replica) pick ≡ true);
      counted = counted;
      none = none;
      values = base;
    };
    all = sym (take-nil (prefix_len (has (fresh_peer n replica)) no_picks));
    few = omega (arith, few, length-map-range_with_len (λ (o : ℕ). no_items) 0 n);
    events = omega arith;
    posts = omega arith;
  }
