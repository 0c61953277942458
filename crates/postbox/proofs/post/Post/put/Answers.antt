use Rattle.postbox.proofs.Posting.{are_for-after_put}
use Rattle.postbox.proofs.post.Post.put.Goals as goal

pub invariant_of-self-2 : goal.invariant_of-self-2
invariant_of-self-2 c =
    are_for-after_put _ _ c.args.desk.now c.args.parcel _ _ c.put.new.self.waiting
    c.self.view_is c.requires.desk c.requires.parcel c.self.invariant c.in-Ok.ensures.items
