use Rattle.std.proofs.Common.{◌≡◌, inl, inr, ℕ, ◌++◌, ◌∷◌, [], List, length, ap, sym, ◌∙◌, subst, arith, Some, slice_get}
use Rattle.week_book.specs.declared.weeks.Week.{Week}
use Rattle.price_master.specs.declared.bidding.Bid.{Bid}
use Rattle.price_master.specs.declared.pooling.Pooled.{Pooled}
use Rattle.price_master.specs.Bids.{AreBids}
use Rattle.price_master.proofs.Lookups.{EarlierOrLast, one-more, split}
use Rattle.price_master.proofs.bidding.bids_of.Goals as goal

each-more : (week : Week) (pool : List (List Pooled)) (bids : List (List Bid)) (n : ℕ) (now : List Pooled) (last : List Bid) → length bids ≡ n →
    ((d : ℕ) (pooled : List Pooled) (of_driver : List Bid) → slice_get pool d ≡ Some pooled → slice_get bids d ≡ Some of_driver → AreBids week pooled of_driver) →
    slice_get pool n ≡ Some now → AreBids week now last → (d : ℕ) (pooled : List Pooled) (of_driver : List Bid) → slice_get pool d ≡ Some pooled →
    slice_get (bids ++ last ∷ []) d ≡ Some of_driver → AreBids week pooled of_driver
each-more week pool bids n now last size each at new d pooled of_driver there is = by_place (split bids last of_driver d is)
  where
    by_place : EarlierOrLast bids last d of_driver → AreBids week pooled of_driver
    by_place (inl g) = each d pooled of_driver there g.1
    by_place (inr g) =
        let e : d ≡ n = g.0 ∙ size in
        let mine : slice_get pool n ≡ Some pooled = ap (slice_get pool) (sym e) ∙ there in
        let same : now ≡ pooled = cc in
        subst (λ (x : List Bid). AreBids week pooled x) g.1 (subst (λ (x : List Pooled). AreBids week x last) same new)

pub bids_of_driver-requires-clause-entries : goal.bids_of_driver-requires-clause-entries
bids_of_driver-requires-clause-entries c = c.requires.pool.entries c.loop-driver.driver c.of.result.now c.of.ensures

pub loop-driver-preserved : goal.loop-driver-preserved
loop-driver-preserved c =
    let pushed = c.in_ok-push.ensures.ok in record {
      as_many = ap length pushed ∙ omega (arith, one-more c.loop-driver.bids c.in_ok-bids_of_driver.field-0, c.loop-driver.invariant.as_many);
      each = λ d pooled of_driver there is. each-more c.args.case.now.week c.args.pool.now c.loop-driver.bids c.loop-driver.driver c.of.result.now c.in_ok-bids_of_driver.field-0
          c.loop-driver.invariant.as_many c.loop-driver.invariant.each c.of.ensures c.in_ok-bids_of_driver.ensures d pooled of_driver there
          (ap (λ (xs : List (List Bid)). slice_get xs d) (sym pushed) ∙ is);
    }
