-- Books and replicas of the group that the tests make: two replicas, on one conit.
use Rattle.std.specs.Prelude.{◌≡◌, ◌<◌, ℕ, All, length}
use Rattle.tact_base.specs.declared.write.Write.{Write}
use Rattle.replica_core.specs.States.{Core}
use Rattle.reference_book.specs.Books.{BookState, log_in}

-- the book of two, in which each accepted so many writes
pub record IsBookOfTwo (book : BookState) (zero one : ℕ) : Type 0 where
  pub replicas : length book.logs ≡ 2
  pub conits : book.conits ≡ 1
  pub zero_has : length (log_in book 0) ≡ zero
  pub one_has : length (log_in book 1) ≡ one

-- the replica with this number of two
pub record IsOfTwo (core : Core) (replica : ℕ) : Type 0 where
  pub replicas : core.setup.replicas ≡ 2
  pub conits : core.setup.conits ≡ 1
  pub number : core.replica ≡ replica

-- a write of an origin at an index, on conit 0 alone
pub record IsWriteOf (write : Write) (origin index : ℕ) : Type 0 where
  pub origin_is : write.origin ≡ origin
  pub index_is : write.index ≡ index
  pub on_conits : All (λ weight. weight.conit < 1) write.weights
