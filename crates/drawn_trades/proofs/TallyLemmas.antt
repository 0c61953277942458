-- One more trade in a tally.
use Rattle.std.proofs.Common.{◌≡◌, ℕ, ◌+◌, ◌<◌, ◌≤◌, Bool, cond, List, [], ◌∷◌, ◌++◌, length, map, refl, sym, ap, ap₂, ◌∙◌, arith}
use Rattle.std.specs.List.{count_by, zip}
use Rattle.std.proofs.lemmas.List.{length-map, map_push}
use Rattle.std.proofs.lemmas.List.Sums.{count_by-le-length, sum_by_push}
use Rattle.seat_app.specs.Bookings.{BookingState, booked_by, with_trade}
use Rattle.seat_app.specs.declared.trades.Handed.{Handed}
use Rattle.seat_app.specs.declared.trades.Outcome.{Outcome}
use Rattle.seat_app.specs.declared.trades.TheConstants.{TRADES_MAX}
use Rattle.seat_app.specs.declared.trades.Trade.{Trade}
use Rattle.drawn_trades.specs.Tallies.{HasRoom, IsTallyOf, count_in, deal_of, deals_in, is_cancelled, is_over, is_sold, is_under, is_waiting}
use Rattle.drawn_trades.specs.declared.tally.Deal.{Deal}
use Rattle.drawn_trades.specs.declared.tally.Tally.{Tally}

zip-push : {A B : Type 0} (xs : List A) (ys : List B) (x : A) (y : B)
    → length ys ≡ length xs
    → zip (xs ++ x ∷ []) (ys ++ y ∷ []) ≡ zip xs ys ++ (x, y) ∷ []
zip-push [] [] x y same = refl
zip-push [] (b ∷ ys) x y same = absurd (omega (arith, same))
zip-push (a ∷ xs) [] x y same = absurd (omega (arith, same))
zip-push (a ∷ xs) (b ∷ ys) x y same = ap (λ rest. (a, b) ∷ rest) (zip-push xs ys x y (omega (arith, same)))

zip_few : {A B : Type 0} (xs : List A) (ys : List B) → length (zip xs ys) ≤ length xs
zip_few [] ys = omega arith
zip_few (a ∷ xs) [] = omega arith
zip_few (a ∷ xs) (b ∷ ys) = omega (arith, zip_few xs ys)

-- what a trade came to
abbrev dealt_as : Handed × Outcome → Deal
dealt_as dealt = deal_of dealt.0.trade dealt.1

-- one more trade came to something more
pub deals_more : (old new : BookingState) (moment : ℕ) (next : Trade) (outcome : Outcome) (deal : Deal)
    → new ≡ with_trade old moment next
    → (booked_by new).outcomes ≡ (booked_by old).outcomes ++ outcome ∷ []
    → length (booked_by old).outcomes ≡ length old.trades
    → deal ≡ deal_of next outcome
    → deals_in new ≡ deals_in old ++ deal ∷ []
deals_more old new moment next outcome deal same came each is =
    let handed : Handed = record { moment = moment; trade = next } in
    ap₂ (λ (trades : List Handed) (outcomes : List Outcome). map dealt_as (zip trades outcomes)) (ap (λ (b : BookingState). b.trades) same) came
    ∙ ap (map dealt_as) (zip-push old.trades (booked_by old).outcomes handed outcome each)
    ∙ map_push dealt_as (zip old.trades (booked_by old).outcomes) (handed, outcome)
    ∙ ap (λ (d : Deal). deals_in old ++ d ∷ []) (sym is)

-- each count is at most the count of trades
module _ (booking : BookingState) (tally : Tally) (is : IsTallyOf booking tally) (few : length booking.trades < TRADES_MAX) where
  count_few : (kind : Deal → Bool) → count_in kind booking < TRADES_MAX
  count_few kind =
      let dealt = zip booking.trades (booked_by booking).outcomes in
      omega (arith, few, count_by-le-length kind (map dealt_as dealt), length-map dealt dealt_as, zip_few booking.trades (booked_by booking).outcomes)

  pub has_room : HasRoom tally
  has_room = record {
    sold = omega (arith, is.sold, count_few is_sold);
    cancelled = omega (arith, is.cancelled, count_few is_cancelled);
    over = omega (arith, is.over, count_few is_over);
    under = omega (arith, is.under, count_few is_under);
    waiting = omega (arith, is.waiting, count_few is_waiting);
  }

-- and is counted
module _ (old new : BookingState) (before after : Tally) (deal : Deal) (is : IsTallyOf old before) (more : deals_in new ≡ deals_in old ++ deal ∷ []) where
  one_more : (kind : Deal → Bool) (was now : ℕ)
      → was ≡ count_in kind old
      → now ≡ was + cond (kind deal) 1 0
      → now ≡ count_in kind new
  one_more kind was now was_is now_is =
      now_is ∙ ap (λ (n : ℕ). n + cond (kind deal) 1 0) was_is
      ∙ sym (ap (count_by kind) more ∙ sum_by_push (λ (d : Deal). cond (kind d) 1 0) (deals_in old) deal)

  pub tally_more : after.sold ≡ before.sold + cond (is_sold deal) 1 0
      → after.cancelled ≡ before.cancelled + cond (is_cancelled deal) 1 0
      → after.over ≡ before.over + cond (is_over deal) 1 0
      → after.under ≡ before.under + cond (is_under deal) 1 0
      → after.waiting ≡ before.waiting + cond (is_waiting deal) 1 0
      → IsTallyOf new after
  tally_more sold cancelled over under waiting = record {
    sold = one_more is_sold before.sold after.sold is.sold sold;
    cancelled = one_more is_cancelled before.cancelled after.cancelled is.cancelled cancelled;
    over = one_more is_over before.over after.over is.over over;
    under = one_more is_under before.under after.under is.under under;
    waiting = one_more is_waiting before.waiting after.waiting is.waiting waiting;
  }
