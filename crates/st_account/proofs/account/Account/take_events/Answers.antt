use Rattle.st_account.proofs.Common.{slice_index, ◌≡◌, length, sym, ◌∙◌, ap, words_of_storage, Scene, position, still_by, Account}
use Rattle.st_account.proofs.PassLemmas.{scene-is, printed-is, card-is, waited-is, left-is, may-is, dropped-is, banks-is, begun-is, run-same, soon-same}
use Rattle.st_account.proofs.account.Account.take_events.Goals as goal

pub returns-clause-came : goal.returns-clause-came
returns-clause-came c b m at =
    let p = position c.args.timing.now.delays.now.list c.args.timing.now.levels c.args.left b m in
    let a = c.args.self.now in
    let x = c.args.pending.now in
    let y = c.settle-came.new.pending in
    let mid = c.look_if.new.self.state in
    let state = c.settle-came.new.state in
    let after = sym c.settle-came.ensures.came in
    let still = c.is_still-still.ensures ∙ ap (still_by a.state a.last.done.mispredicted) c.signals.ensures in
    let last = ap (λ (x : Account). x.last) c.look_if.ensures.rest in
    let segment = ap (λ (x : Account). x.k) c.look_if.ensures.rest in
    let size : length c.look_if.new.self.words.items ≡ words_of_storage → length a.words.items ≡ words_of_storage =
    λ long. ap (λ (x : Account). length x.words.items) (sym c.look_if.ensures.rest) ∙ long in
    let scene = scene-is p a x at mid state y c.look_if.ensures.state after in
    record {
      behind = record {
        is = record {
          state = ap (λ (z : Scene). z.machine) scene;
          tick = at.hand.tick ∙ ap (λ l. l.tick) (sym last);
          issue = at.hand.issue ∙ ap (λ l. l.issue) (sym last);
          mispredicted = at.hand.mispredicted ∙ ap (λ l. l.done.mispredicted) (sym last);
          was = at.was ∙ ap (λ l. l.enabled) (sym last);
          dropped = λ ends.
              dropped-is p a x at c.is_still-still.result c.is_end_near.result still c.is_end_near.ensures ends _ (λ yes. (c.look_if.ensures.found yes).found);
          begun = λ ends some.
              begun-is p a x at c.is_still-still.result c.is_end_near.result still c.is_end_near.ensures ends _ (λ yes. (c.look_if.ensures.found yes).begun)
              (λ none. some (segment ∙ none));
          banks = λ ends.
              banks-is p a x at c.is_still-still.result c.is_end_near.result still c.is_end_near.ensures ends _
              (λ yes. (c.look_if.ensures.found yes).banks at.hand.reads at.hand.bus at.hand.has);
          printed = printed-is p a x at mid state y c.look_if.ensures.state after _ c.settle-came.ensures.printed;
          card = card-is p a x at mid state y c.look_if.ensures.state after _ c.settle-came.ensures.card;
          waited = waited-is p a x at mid state y c.look_if.ensures.state after _ c.settle-came.ensures.waited;
          words = λ some long.
              ap (λ (x : Account). x.words.items) c.look_if.ensures.rest ∙ at.words (λ none. some (segment ∙ none)) (size long);
          unchanged = λ long some v inside left.
              ap (λ (x : Account). slice_index x.words.items v) c.look_if.ensures.rest
              ∙ left-is p a x at mid state y c.look_if.ensures.state after _ (may-is _ c.look_if.new.self.last a.last c.look_if.new.self.state c.changeable-self.ensures last)
              (λ none. some (segment ∙ none)) (size long) v inside left;
        };
        run = run-same p a x at _ (ap (λ (z : Scene). z.machine) scene) segment last (ap (λ (x : Account). x.waiting) c.look_if.ensures.rest);
        dropped = c.look_if.ensures.few;
        soon = soon-same a.last c.look_if.new.self.last _ last (c.look_if.ensures.soon at.hand.reads at.hand.bus at.hand.has);
      };
      scene = scene;
    }

pub look_if-requires : goal.look_if-requires
look_if-requires c = (c.args.left, c.requires.at.run)

pub settle-came-requires : goal.settle-came-requires
settle-came-requires c still =
    let last = c.args.self.now.last.done.mispredicted in (
      last,
      ap (λ u. still_by u last c.args.pending.now.signals) c.look_if.ensures.state
          ∙ sym (c.is_still-still.ensures ∙ ap (still_by c.args.self.now.state last) c.signals.ensures) ∙ still,
    )
