mod OnePlan
