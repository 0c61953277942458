use Rattle.std.proofs.Common.{◌≡◌, ℕ, ◌+◌, ◌-◌, ◌≤◌, ◌++◌, List, length, vec_len, take, ap, ap₂, sym, ◌∙◌, arith}
use Rattle.std.proofs.lemmas.List.{drop-map, length-append, length-map, length-take, take-append-le, take-map}
use Rattle.std.specs.Vec.{vec_capacity}
use Rattle.tact_base.specs.Images.{ops_of}
use Rattle.tact_base.specs.declared.write.Op.{Op}
use Rattle.tact_base.specs.declared.write.Write.{Write}
use Rattle.rollback_apply.specs.Image.{ImageState, AreJoined}
use Rattle.rollback_apply.specs.Layers.{ops_in, wanted, all_wanted, HasMemory}
use Rattle.rollback_apply.specs.declared.layers.Layers.{Layers}
use Rattle.rollback_apply.specs.declared.layers.Layer.{Layer}
use Rattle.rollback_apply.proofs.ImageLemmas.{op_in, op_of, joined_length, few_wanted, memory-fewer, take-within, wanted-behind}
use Rattle.rollback_apply.proofs.image.Image.insert_all.Goals as goal

-- Operations that are put among those of layers: how many there are then.
many : (layers : List Layer) (new : List Op) (writes : List Write) (index : ℕ)
    → AreJoined (ops_in layers) new (take index (ops_in layers) ++ ops_of writes)
    → index ≤ length layers
    → index + length writes ≡ length layers + length new
many layers new writes index joined within = omega (
  arith,
  joined_length (ops_in layers) new (take index (ops_in layers) ++ ops_of writes) joined,
  length-append (take index (ops_in layers)) (ops_of writes),
  length-take index (ops_in layers),
  length-map layers op_in,
  length-map writes op_of,
  within,
)

-- the operations of a view stand in the layers
in_layers : (state : ImageState) (layers : List Layer) (new : List Op) (writes : List Write) (place committed : ℕ)
    → committed ≡ state.committed
    → ops_in layers ≡ state.ops
    → AreJoined state.ops new (take (place - state.committed) state.ops ++ ops_of writes)
    → AreJoined (ops_in layers) new (take (place - committed) (ops_in layers) ++ ops_of writes)
in_layers state layers new writes place committed counted ops joined = rw (counted, ops) joined

-- What is put in, and how many.
module _ (state : ImageState) (layers : List Layer) (new : List Op) (writes : List Write) (place committed : ℕ)
    (counted : committed ≡ state.committed) (ops : ops_in layers ≡ state.ops)
    (joined : AreJoined state.ops new (take (place - state.committed) state.ops ++ ops_of writes))
    (within : place ≤ state.committed + length state.ops) where
  pub all_joined : AreJoined (ops_in layers) new (take (place - committed) (ops_in layers) ++ ops_of writes)
  all_joined = rw (counted, ops) joined

  pub within_layers : place - committed ≤ length layers
  within_layers = omega (arith, within, counted, ap length ops, length-map layers op_in)

  pub many_layers : place - committed + length writes ≡ length layers + length new
  many_layers = many layers new writes (place - committed) all_joined within_layers

  -- and afterwards
  module _ (replaced done : List Layer)
      (put : ops_in replaced ≡ ops_in (take (place - committed) layers) ++ ops_of writes) (applied : ops_in done ≡ ops_in replaced) where
    pub ops_after : ops_in done ≡ take (place - committed) (ops_in layers) ++ ops_of writes
    ops_after =
        applied ∙ put
        ∙ ap (λ (front : List Op). front ++ ops_of writes) (sym (take-map op_in (place - committed) layers))

    pub count_after : length done ≡ length layers + length new
    count_after = omega (
      arith,
      ap length ops_after,
      length-append (take (place - committed) (ops_in layers)) (ops_of writes),
      length-take (place - committed) (ops_in layers),
      length-map layers op_in,
      length-map done op_in,
      length-map writes op_of,
      within_layers,
      many_layers,
    )

pub replace_from-requires-clause-capacity : goal.replace_from-requires-clause-capacity
replace_from-requires-clause-capacity c =
    let image = c.self.inside in
    let layers = c.undo_back-applied.new.self.tentative.items in
    let ops : ops_in layers ≡ c.args.self.now.ops = rw c.undo_back-applied.ensures.tentative (ap (λ (image : ImageState). image.ops) c.self.view_is) in
    let count =
    many_layers c.args.self.now layers (ops_of c.args.new.now) c.args.rest.now c.args.place image.committed
    (ap (λ (image : ImageState). image.committed) c.self.view_is) ops c.requires.joined c.requires.within in
    let listed : vec_len c.undo_back-applied.new.self.tentative + image.room ≤ vec_capacity c.undo_back-applied.new.self.tentative =
    rw c.undo_back-applied.ensures.tentative c.self.invariant.memory.listed in
    omega (arith, count, listed, c.requires.room, length-map c.args.new.now op_of, ap (λ (image : ImageState). image.room) c.self.view_is)

pub returns-clause-ops : goal.returns-clause-ops
returns-clause-ops c =
    let image = c.self.inside in
    let layers = c.undo_back-applied.new.self.tentative.items in
    let counted = ap (λ (image : ImageState). image.committed) c.self.view_is in
    let ops : ops_in layers ≡ c.args.self.now.ops = rw c.undo_back-applied.ensures.tentative (ap (λ (image : ImageState). image.ops) c.self.view_is) in
    ops_after c.args.self.now layers (ops_of c.args.new.now) c.args.rest.now c.args.place image.committed counted ops
    c.requires.joined c.requires.within c.replace_from.new.self.tentative.items
    c.limit_lag-self-inside.new.self.tentative.items c.replace_from.ensures.ops c.limit_lag-self-inside.ensures.ops
    ∙ ap₂ (λ (count : ℕ) (all : List Op). take (c.args.place - count) all ++ ops_of c.args.rest.now) counted ops

-- There is memory for the operations behind the first ones that are applied, the new ones among them.
module _ (undone replaced : Layers) (new : List Op) (writes : List Write) (index applied room : ℕ)
    (joined : AreJoined (ops_in undone.tentative.items) new (take index (ops_in undone.tentative.items) ++ ops_of writes))
    (within : index ≤ length undone.tentative.items) (before : applied ≤ index)
    (put : ops_in replaced.tentative.items ≡ ops_in (take index undone.tentative.items) ++ ops_of writes)
    (current : replaced.current ≡ undone.current) (capacity : vec_capacity undone.tentative ≤ vec_capacity replaced.tentative)
    (has : HasMemory undone applied (room + length new)) where
  abbrev old : List Op
  old = ops_in undone.tentative.items

  abbrev now : List Op
  now = ops_in replaced.tentative.items

  now_is : now ≡ take index old ++ ops_of writes
  now_is = put ∙ ap (λ (front : List Op). front ++ ops_of writes) (sym (take-map op_in index undone.tentative.items))

  front : take applied now ≡ take applied old
  front =
      let whole : applied ≤ length (take index old) =
      omega (arith, length-take index old, length-map undone.tentative.items op_in, within, before) in
      ap (take applied) now_is ∙ take-append-le applied (take index old) (ops_of writes) whole ∙ take-within applied index old before

  wants : all_wanted undone.current now ≡ all_wanted undone.current old + all_wanted undone.current new
  wants = ap (all_wanted undone.current) now_is ∙ joined (wanted undone.current)

  pub memory_joined : HasMemory replaced applied room
  memory_joined = record {
    listed = omega (
      arith,
      has.listed,
      capacity,
      joined_length old new (take index old ++ ops_of writes) joined,
      ap length now_is,
      length-map undone.tentative.items op_in,
      length-map replaced.tentative.items op_in,
    );
    keys = rw current (omega (
      arith,
      has.keys,
      wanted-behind undone.current old now applied (all_wanted undone.current new) front wants,
      few_wanted undone.current new,
      ap (all_wanted undone.current) (drop-map op_in applied undone.tentative.items),
      ap (all_wanted undone.current) (drop-map op_in applied replaced.tentative.items),
    ));
  }

pub limit_lag-self-inside-requires-clause-memory : goal.limit_lag-self-inside-requires-clause-memory
limit_lag-self-inside-requires-clause-memory c =
    memory-fewer c.replace_from.new.self c.undo_back-applied.result (c.self.inside.room - length c.args.new.now) 0 (omega arith)
    (let image = c.self.inside in
    let undone = c.undo_back-applied.new.self in
    let layers = undone.tentative.items in
    let writes = c.args.new.now in
    let counted = ap (λ (image : ImageState). image.committed) c.self.view_is in
    let ops : ops_in layers ≡ c.args.self.now.ops = rw c.undo_back-applied.ensures.tentative (ap (λ (image : ImageState). image.ops) c.self.view_is) in
    let room = image.room - length writes in
    let enough : room + length (ops_of writes) ≤ image.room =
    omega (arith, c.requires.room, length-map writes op_of, ap (λ (image : ImageState). image.room) c.self.view_is) in
    memory_joined undone c.replace_from.new.self (ops_of writes) c.args.rest.now (c.args.place - image.committed) c.undo_back-applied.result room
    (all_joined c.args.self.now layers (ops_of writes) c.args.rest.now c.args.place image.committed counted ops c.requires.joined c.requires.within)
    (within_layers c.args.self.now layers (ops_of writes) c.args.rest.now c.args.place image.committed counted ops c.requires.joined c.requires.within)
    c.undo_back-applied.ensures.above c.replace_from.ensures.ops c.replace_from.ensures.current c.replace_from.ensures.capacity
    (memory-fewer undone c.undo_back-applied.result image.room (room + length (ops_of writes)) enough
    (c.undo_back-applied.ensures.memory image.room c.self.invariant.memory)))

pub invariant_of-self : goal.invariant_of-self
invariant_of-self c =
    let last = c.limit_lag-self-inside.ensures in
    record {
      applies = last.applies;
      within = omega (arith, last.within);
      few = omega (arith, last.few);
      counted = rw (last.settled, c.replace_from.ensures.settled, c.undo_back-applied.ensures.settled) c.self.invariant.counted;
      memory = last.memory (c.self.inside.room - length c.args.new.now)
          (let image = c.self.inside in
          let undone = c.undo_back-applied.new.self in
          let layers = undone.tentative.items in
          let writes = c.args.new.now in
          let counted = ap (λ (image : ImageState). image.committed) c.self.view_is in
          let ops : ops_in layers ≡ c.args.self.now.ops = rw c.undo_back-applied.ensures.tentative (ap (λ (image : ImageState). image.ops) c.self.view_is) in
          let room = image.room - length writes in
          let enough : room + length (ops_of writes) ≤ image.room =
          omega (arith, c.requires.room, length-map writes op_of, ap (λ (image : ImageState). image.room) c.self.view_is) in
          memory_joined undone c.replace_from.new.self (ops_of writes) c.args.rest.now (c.args.place - image.committed) c.undo_back-applied.result room
          (all_joined c.args.self.now layers (ops_of writes) c.args.rest.now c.args.place image.committed counted ops c.requires.joined c.requires.within)
          (within_layers c.args.self.now layers (ops_of writes) c.args.rest.now c.args.place image.committed counted ops c.requires.joined c.requires.within)
          c.undo_back-applied.ensures.above c.replace_from.ensures.ops c.replace_from.ensures.current c.replace_from.ensures.capacity
          (memory-fewer undone c.undo_back-applied.result image.room (room + length (ops_of writes)) enough
          (c.undo_back-applied.ensures.memory image.room c.self.invariant.memory)));
    }
