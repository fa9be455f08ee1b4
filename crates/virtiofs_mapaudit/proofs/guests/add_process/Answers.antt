use Rattle.std.proofs.Common.{◌≡◌, ◌+◌, ℕ, inl, inr, length, refl, rules, subst}
use Rattle.virtiofs_mapaudit.specs.Everyone.{IsOfProcess}
use Rattle.virtiofs_mapaudit.proofs.guests.add_process.Goals as goal

pub returns-in-Err : goal.returns-in-Err
returns-in-Err c = inr (record {
  fault = c.in-Err.fault;
  is = rw c.in-Err.is at c.in_ok-told.ensures;
  guests = refl;
  unknown = refl;
  told = c.in_ok-push-in-Err.ensures.items;
})

pub returns : goal.returns
returns c =
    let same : c.len-number.result ≡ length c.args.all.now.guests.items = search rules in inl (record {
      guest = c.in-Ok.told.0;
      unknown = c.in-Ok.told.1;
      is = subst (λ (n : ℕ). IsOfProcess c.args.of_daemon (n + 1) c.args.process.now c.in-Ok.told.0 c.in-Ok.told.1) same
          (rw c.in-Ok.is at c.in_ok-told.ensures);
      guests = c.in_ok-push.ensures.items;
      told = rw c.as_slice.ensures.value at c.in_ok-extend_from_slice.ensures.items;
      faults = refl;
    })
